-- The lines of a table, one number after the other.
use Rattle.std.proofs.Common.{◌≡◌, ℕ, ◌+◌, Bool, true, false, cond, List, [], ◌∷◌, ◌++◌, map, length, get_or, ◌<◌, not, if◌then◌else◌, refl, sym, ap, ◌∙◌}
use Rattle.std.specs.Prelude.{filter}
use Rattle.std.proofs.lemmas.List.{append-nil, map-append, get_or_read}
use Rattle.std.proofs.lemmas.List.Elements.{filter-append}
use Rattle.phase_modes.specs.Limits.{default_limits}
use Rattle.phase_modes.specs.Lists.{is_empty}
use Rattle.phase_model.specs.Rules.{Story}
use Rattle.finish_core.specs.Finish.{FinishStory, fresh, spawned_tasks}
use Rattle.world_model.specs.declared.report.FinishLine.{FinishLine}
use Rattle.world_model.specs.declared.report.TaskLine.{TaskLine}
use Rattle.world_model.specs.declared.report.TotalsLine.{TotalsLine}
use Rattle.world_model.specs.Report.{PhaserReport, below, totals_line}
use Rattle.world_model.specs.SumLines.{lines_of, plus}
use Rattle.world_model.proofs.Adding.{totals_more}
use Rattle.world_records.specs.TaskState.{TaskState}
use Rattle.world_records.specs.Kept.{blank_story, blank_task}
use Rattle.world_records.specs.inner.Reports.{story_in, line_in, finish_in, made, born, opened, task_row, finish_row, row_if_made, with_if_made, row_if_born, row_if_opened}
use Rattle.world_model.proofs.Rows.{below_more}

kept_last : (p : ℕ → Bool) (n : ℕ) → filter p (below (n + 1)) ≡ filter p (below n) ++ cond (p n) (n ∷ []) []
kept_last p n = ap (λ ns. filter p ns) (below_more n) ∙ filter-append p (below n) (n ∷ [])

-- the next number is listed, or isn't
listed : {X : Type 0} (f : ℕ → X) (p : ℕ → Bool) (n : ℕ) → map f (filter p (below (n + 1))) ≡ map f (filter p (below n)) ++ map f (cond (p n) (n ∷ []) [])
listed f p n = ap (λ ns. map f ns) (kept_last p n) ∙ map-append f (filter p (below n)) (cond (p n) (n ∷ []) [])

-- the story, the task and the finish that were read stand in the tables under their number
pub made_more : (stories : List Story) (n : ℕ) (s : Story) (ls : List PhaserReport) → n < length stories → s ≡ get_or stories n s
    → ls ≡ map (λ m. lines_of m (story_in stories m)) (made stories n) → ls ++ row_if_made n s ≡ map (λ m. lines_of m (story_in stories m)) (made stories (n + 1))
made_more stories n s ls within is lines =
    let read : s ≡ story_in stories n = get_or_read stories n s within is (blank_story default_limits) in
    rw (lines, listed (λ m. lines_of m (story_in stories m)) (λ m. not (is_empty (story_in stories m).past)) n, ← read)
    (elim (is_empty s.past) as (λ b. map (λ m. lines_of m (story_in stories m)) (made stories n) ++ (if b then [] else lines_of n s ∷ [])
    ≡ map (λ m. lines_of m (story_in stories m)) (made stories n) ++ map (λ m. lines_of m (story_in stories m)) (cond (not b) (n ∷ []) [])) [
      | true ↦ refl
      | false ↦ ap (λ x. map (λ m. lines_of m (story_in stories m)) (made stories n) ++ lines_of n x ∷ []) read
    ])

pub totals_more_made : (stories : List Story) (n : ℕ) (s : Story) (l : TotalsLine) → n < length stories → s ≡ get_or stories n s
    → l ≡ totals_line (map (λ m. (story_in stories m).past) (made stories n))
    → with_if_made s.past l ≡ totals_line (map (λ m. (story_in stories m).past) (made stories (n + 1)))
totals_more_made stories n s l within is totals =
    let read : s ≡ story_in stories n = get_or_read stories n s within is (blank_story default_limits) in
    rw (totals, listed (λ m. (story_in stories m).past) (λ m. not (is_empty (story_in stories m).past)) n, ← read)
    (elim (is_empty s.past) as (λ b. (if b then totals_line (map (λ m. (story_in stories m).past) (made stories n))
    else plus (totals_line (map (λ m. (story_in stories m).past) (made stories n))) (totals_line (s.past ∷ [])))
    ≡ totals_line (map (λ m. (story_in stories m).past) (made stories n) ++ map (λ m. (story_in stories m).past) (cond (not b) (n ∷ []) []))) [
      | true ↦ sym (ap (λ hs. totals_line hs) (append-nil (map (λ m. (story_in stories m).past) (made stories n))))
      | false ↦
          totals_more (map (λ m. (story_in stories m).past) (made stories n)) s.past
          ∙ ap (λ (x : Story). totals_line (map (λ m. (story_in stories m).past) (made stories n) ++ x.past ∷ [])) read
    ])

pub born_more : (lines : List TaskState) (n : ℕ) (k : TaskState) (ls : List TaskLine) → n < length lines → k ≡ get_or lines n k
    → ls ≡ map (task_row lines) (born lines n) → ls ++ row_if_born n k ≡ map (task_row lines) (born lines (n + 1))
born_more lines n k ls within is rows =
    let read : k ≡ line_in lines n = get_or_read lines n k within is blank_task in
    rw (rows, listed (task_row lines) (λ m. (line_in lines m).is_born) n, ← read)
    (elim k.is_born as (λ b. map (task_row lines) (born lines n) ++ (if b then record { task = n; refused = k.refused } ∷ [] else [])
    ≡ map (task_row lines) (born lines n) ++ map (task_row lines) (cond b (n ∷ []) [])) [
      | true ↦ ap (λ (x : TaskState). map (task_row lines) (born lines n) ++ record { task = n; refused = x.refused } ∷ []) read
      | false ↦ refl
    ])

pub opened_more : (finishes : List FinishStory) (n : ℕ) (k : FinishStory) (ls : List FinishLine) → n < length finishes → k ≡ get_or finishes n k
    → ls ≡ map (finish_row finishes) (opened finishes n) → ls ++ row_if_opened n k.past ≡ map (finish_row finishes) (opened finishes (n + 1))
opened_more finishes n k ls within is rows =
    let read : k ≡ finish_in finishes n = get_or_read finishes n k within is (fresh 0) in
    rw (rows, listed (finish_row finishes) (λ m. not (is_empty (finish_in finishes m).past)) n, ← read)
    (elim (is_empty k.past) as (λ b. map (finish_row finishes) (opened finishes n) ++ (if b then [] else record { finish = n; tasks = length (spawned_tasks k.past) } ∷ [])
    ≡ map (finish_row finishes) (opened finishes n) ++ map (finish_row finishes) (cond (not b) (n ∷ []) [])) [
      | true ↦ refl
      | false ↦ ap (λ (x : FinishStory). map (finish_row finishes) (opened finishes n) ++ record { finish = n; tasks = length (spawned_tasks x.past) } ∷ []) read
    ])
