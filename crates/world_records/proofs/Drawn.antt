-- The numbers that aren't in use, and a task's own phasers, are read off the state as they are off the history.
use Rattle.std.proofs.Common.{◌≡◌, ℕ, zero, suc, Bool, true, not, List, [], ◌∷◌, get_or, unwrap_or, refl, ap, ◌∙◌, inl, inr}
use Rattle.std.specs.Prelude.{filter, map}
use Rattle.std.proofs.lemmas.Bool.{cases_Bool}
use Rattle.phase_modes.specs.Lists.{is_empty}
use Rattle.phase_modes.specs.declared.reg.Mode.{Mode}
use Rattle.phase_modes.specs.declared.reg.Mode.TheVariants.{Wait}
use Rattle.phase_modes.specs.declared.phased.Pair.{Pair}
use Rattle.phase_model.specs.declared.history.Event.{Event}
use Rattle.phase_model.specs.Tasks.{is_live, mode_of}
use Rattle.finish_core.specs.Finish.{FinishStory, fresh}
use Rattle.world_model.specs.declared.event.WorldEvent.{WorldEvent}
use Rattle.world_model.specs.Parts.{phaser_past}
use Rattle.world_model.specs.Numbers.{is_phaser, is_finish, is_named}
use Rattle.world_model.specs.Drawing.{least_unused, own_pairs}
use Rattle.world_records.specs.WorldState.{WorldState}
use Rattle.world_records.specs.Kept.{blank_task, past_in}
use Rattle.world_records.specs.inner.Drawings.{mode_at, pairs_at}
use Rattle.world_records.specs.StandsFor.{StandsFor}
use Rattle.world_records.proofs.Least.{least_same}
use Rattle.world_records.proofs.Owed.{past_stands}

pub phasers_unused : (s : WorldState) (w : List WorldEvent) → StandsFor w s
    → least_unused (λ n. not (is_empty (past_in s.phasers n))) s.limits.phasers ≡ least_unused (λ n. is_phaser n w) s.limits.phasers
phasers_unused s w st =
    least_same (λ n. not (is_empty (past_in s.phasers n))) (λ n. is_phaser n w) s.limits.phasers (λ n. ap (λ (h : List Event). not (is_empty h)) (past_stands s w n (st.phasers n)))

pub tasks_unused : (s : WorldState) (w : List WorldEvent) → StandsFor w s
    → least_unused (λ t. (get_or s.tasks t blank_task).is_named) s.limits.tasks ≡ least_unused (λ t. is_named t w) s.limits.tasks
tasks_unused s w st = least_same (λ t. (get_or s.tasks t blank_task).is_named) (λ t. is_named t w) s.limits.tasks (λ t. (st.tasks t).named)

-- a number past the table reads as a finish without a past, whatever its limit
past_by : (ys : List FinishStory) (f a b : ℕ) → is_empty (get_or ys f (fresh a)).past ≡ is_empty (get_or ys f (fresh b)).past
past_by [] f a b = refl
past_by (y ∷ ys) zero a b = refl
past_by (y ∷ ys) (suc f) a b = past_by ys f a b

pub finishes_unused : (s : WorldState) (w : List WorldEvent) → StandsFor w s
    → least_unused (λ f. not (is_empty (get_or s.finishes f (fresh 0)).past)) s.limits.finishes ≡ least_unused (λ f. is_finish f w) s.limits.finishes
finishes_unused s w st =
    least_same (λ f. not (is_empty (get_or s.finishes f (fresh 0)).past)) (λ f. is_finish f w) s.limits.finishes
    (λ f. ap (λ b. not b) (past_by s.finishes f 0 s.limits.tasks ∙ ap (λ (y : FinishStory). is_empty y.past) (st.finishes f).story))

-- a live task's mode
mode_is : (t : ℕ) (h : List Event) → is_live t h ≡ true → mode_at t h ≡ unwrap_or (mode_of t h) Wait
mode_is t h live = rw live refl

pairs_under : (f g : ℕ → Pair) (r : ℕ → Bool) (xs : List ℕ) → ((n : ℕ) → r n ≡ true → f n ≡ g n) → map f (filter r xs) ≡ map g (filter r xs)
pairs_under f g r [] e = refl
pairs_under f g r (x ∷ xs) e =
    let rest : map f (filter r xs) ≡ map g (filter r xs) = pairs_under f g r xs e in
    elim (cases_Bool (r x)) [
      | inl k ↦
          let here : f x ≡ g x = e x k in
          rw (k, here) (ap (λ ys. g x ∷ ys) rest)
      | inr k ↦ rw k rest
    ]

pub pairs_are : (s : WorldState) (t : ℕ) (w : List WorldEvent) → StandsFor w s → pairs_at s t ≡ own_pairs t w
pairs_are s t w st =
    let f : ℕ → Pair = λ n. record { phaser = n; mode = mode_at t (past_in s.phasers n) } in
    let g : ℕ → Pair = λ n. record { phaser = n; mode = unwrap_or (mode_of t (phaser_past n w)) Wait } in
    ap (λ (ns : List ℕ). map f ns) (st.tasks t).phasers
    ∙ pairs_under f g (λ n. is_live t (phaser_past n w)) _
    (λ n live. ap (λ (m : Mode). record { phaser = n; mode = m }) (ap (λ (h : List Event). mode_at t h) (past_stands s w n (st.phasers n)) ∙ mode_is t (phaser_past n w) live))
