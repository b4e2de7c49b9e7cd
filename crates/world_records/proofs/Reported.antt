-- What a world's tables are reported as is the report of each history for which they stand.
use Rattle.std.proofs.Common.{◌≡◌, ℕ, zero, suc, not, List, [], ◌∷◌, get_or, map, length, refl, ap, ◌∙◌}
use Rattle.std.specs.Prelude.{filter, Option}
use Rattle.std.proofs.lemmas.List.Elements.{filter_agree}
use Rattle.phase_modes.specs.declared.limits.Limits.{Limits}
use Rattle.phase_modes.specs.Lists.{is_empty}
use Rattle.phase_model.specs.declared.history.Event.{Event}
use Rattle.phase_model.specs.Rules.{Story}
use Rattle.finish_core.specs.declared.event.FinishEvent.{FinishEvent}
use Rattle.finish_core.specs.Finish.{FinishStory, fresh, spawned_tasks}
use Rattle.world_model.specs.declared.event.WorldEvent.{WorldEvent}
use Rattle.world_model.specs.Numbers.{is_phaser, is_finish}
use Rattle.world_model.specs.Parts.{phaser_past, finish_past}
use Rattle.world_model.specs.Report.{Report, below, phaser_lines, task_line, finish_line, totals_line, report_of}
use Rattle.world_model.specs.Tasks.{is_born}
use Rattle.world_model.specs.SumLines.{lines_of}
use Rattle.world_records.specs.WorldState.{WorldState}
use Rattle.world_records.specs.Kept.{blank_story, blank_task}
use Rattle.world_records.specs.inner.Reports.{story_in, finish_in, made, task_row, finish_row, kept_report}
use Rattle.world_records.specs.StandsFor.{StandsFor}

same_map : {X : Type 0} (f g : ℕ → X) (ns : List ℕ) → ((n : ℕ) → f n ≡ g n) → map f ns ≡ map g ns
same_map f g [] same = refl
same_map f g (n ∷ ns) same = rw (same n, same_map f g ns same) refl

-- what is read past a table doesn't depend on the limits
lines_past : (stories : List Story) (n m : ℕ) (l : Limits) → lines_of m (story_in stories n) ≡ lines_of m (get_or stories n (blank_story l))
lines_past [] n m l = refl
lines_past (s ∷ stories) zero m l = refl
lines_past (s ∷ stories) (suc n) m l = lines_past stories n m l

past_past : (stories : List Story) (n : ℕ) (l : Limits) → (story_in stories n).past ≡ (get_or stories n (blank_story l)).past
past_past [] n l = refl
past_past (s ∷ stories) zero l = refl
past_past (s ∷ stories) (suc n) l = past_past stories n l

finish_past_in : (finishes : List FinishStory) (f tasks : ℕ) → (finish_in finishes f).past ≡ (get_or finishes f (fresh tasks)).past
finish_past_in [] f tasks = refl
finish_past_in (s ∷ finishes) zero tasks = refl
finish_past_in (s ∷ finishes) (suc f) tasks = finish_past_in finishes f tasks

past_is : (s : WorldState) (w : List WorldEvent) → StandsFor w s → (n : ℕ) → (story_in s.phasers n).past ≡ phaser_past n w
past_is s w st n = past_past s.phasers n s.limits ∙ ap (λ (x : Story). x.past) (st.phasers n).story

lines_are : (s : WorldState) (w : List WorldEvent) → StandsFor w s → (n : ℕ) → lines_of n (story_in s.phasers n) ≡ phaser_lines w n
lines_are s w st n = lines_past s.phasers n n s.limits ∙ ap (λ (x : Story). lines_of n x) (st.phasers n).story

finish_is : (s : WorldState) (w : List WorldEvent) → StandsFor w s → (f : ℕ) → (finish_in s.finishes f).past ≡ finish_past f w
finish_is s w st f = finish_past_in s.finishes f s.limits.tasks ∙ ap (λ (x : FinishStory). x.past) (st.finishes f).story

made_are : (s : WorldState) (w : List WorldEvent) → StandsFor w s → made s.phasers s.limits.phasers ≡ filter (λ n. is_phaser n w) (below s.limits.phasers)
made_are s w st =
    filter_agree (λ n. not (is_empty (story_in s.phasers n).past)) (λ n. is_phaser n w)
    (λ n. ap (λ (h : List Event). not (is_empty h)) (past_is s w st n)) (below s.limits.phasers)

pub same_report : (a b : Report) → a.phasers ≡ b.phasers → a.tasks ≡ b.tasks → a.finishes ≡ b.finishes → a.totals ≡ b.totals → a ≡ b
same_report a b phasers tasks finishes totals =
    let whole : record { phasers = a.phasers; tasks = a.tasks; finishes = a.finishes; totals = a.totals }
    ≡ record { phasers = b.phasers; tasks = b.tasks; finishes = b.finishes; totals = b.totals }
    = cc
    in
    whole

pub report_is : (s : WorldState) (w : List WorldEvent) → StandsFor w s → kept_report s ≡ report_of s.limits w
report_is s w st =
    let numbers = made_are s w st in
    let phasers : (kept_report s).phasers ≡ (report_of s.limits w).phasers =
    ap (λ ns. map (λ n. lines_of n (story_in s.phasers n)) ns) numbers
    ∙ same_map (λ n. lines_of n (story_in s.phasers n)) (phaser_lines w) (filter (λ n. is_phaser n w) (below s.limits.phasers)) (lines_are s w st)
    in
    let tasks : (kept_report s).tasks ≡ (report_of s.limits w).tasks =
    ap (λ ns. map (task_row s.tasks) ns)
    (filter_agree (λ t. (get_or s.tasks t blank_task).is_born) (λ t. is_born t w) (λ t. (st.tasks t).born) (below s.limits.tasks))
    ∙ same_map (task_row s.tasks) (task_line w) (filter (λ t. is_born t w) (below s.limits.tasks))
    (λ t. ap (λ (r : Option ℕ). record { task = t; refused = r }) (st.tasks t).refused)
    in
    let finishes : (kept_report s).finishes ≡ (report_of s.limits w).finishes =
    ap (λ ns. map (finish_row s.finishes) ns)
    (filter_agree (λ f. not (is_empty (finish_in s.finishes f).past)) (λ f. is_finish f w)
    (λ f. ap (λ (h : List FinishEvent). not (is_empty h)) (finish_is s w st f)) (below s.limits.finishes))
    ∙ same_map (finish_row s.finishes) (finish_line w) (filter (λ f. is_finish f w) (below s.limits.finishes))
    (λ f. ap (λ (h : List FinishEvent). record { finish = f; tasks = length (spawned_tasks h) }) (finish_is s w st f))
    in
    let totals : (kept_report s).totals ≡ (report_of s.limits w).totals =
    ap (λ hs. totals_line hs)
    (ap (λ ns. map (λ n. (story_in s.phasers n).past) ns) numbers
    ∙ same_map (λ n. (story_in s.phasers n).past) (λ n. phaser_past n w) (filter (λ n. is_phaser n w) (below s.limits.phasers)) (past_is s w st))
    in
    same_report (kept_report s) (report_of s.limits w) phasers tasks finishes totals
