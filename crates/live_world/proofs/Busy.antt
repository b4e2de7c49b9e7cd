-- Who may not begin an act by its slot may not by the history.
use Rattle.std.proofs.Common.{◌≡◌, ℕ, ◌==◌, Bool, true, false, ◌&&◌, not, List, [], ◌∷◌, ◌++◌, refl, ap, subst, ◌∙◌, inl, inr}
use Rattle.std.proofs.lemmas.Bool.{cases_Bool, and_parts, and_right, eqb-true, true≢false}
use Rattle.phase_modes.specs.Lists.{is_empty}
use Rattle.world_model.specs.declared.event.WorldEvent.{WorldEvent}
use Rattle.world_model.specs.Due.{due, is_idle}
use Rattle.world_model.specs.Tasks.{is_born, is_ended}
use Rattle.task_standing.specs.StillToMake.{planned, shuts_of, end_of}
use Rattle.live_world.specs.declared.at.TaskAt.{TaskAt}
use Rattle.live_world.specs.declared.course.Course.{Course}
use Rattle.live_world.specs.declared.course.Course.TheVariants as course
use Rattle.live_world.specs.Live.{TaskLine, LiveState, task_at, is_there, is_free, is_idle_course, known_of, plan_of}
use Rattle.live_world.specs.StandsFor.{TaskStands}

-- a name of a task that is there
pub taken_there : (s : LiveState) (t : TaskAt) → is_there s t ≡ true → (task_at s t.slot).taken ≡ true
taken_there s t h = (and_parts (task_at s t.slot).taken ((task_at s t.slot).number == t.number) h).0

pub number_there : (s : LiveState) (t : TaskAt) → is_there s t ≡ true → (task_at s t.slot).number ≡ t.number
number_there s t h =
    eqb-true (task_at s t.slot).number t.number
    (and_parts (task_at s t.slot).taken ((task_at s t.slot).number == t.number) h).1

-- who is in an act has something due
ended_by : (xs ys : List WorldEvent) (e : WorldEvent) → is_empty (xs ++ (ys ++ e ∷ [])) ≡ false
ended_by [] [] e = refl
ended_by [] (y ∷ ys) e = refl
ended_by (x ∷ xs) ys e = refl

due_then : (k : TaskLine) (c : Course) → is_idle_course c ≡ false → is_empty (planned (known_of k) (plan_of c)) ≡ false
due_then k course.Idle e = absurd (true≢false e)
due_then k course.Shutting e = refl
due_then k course.Ending e = ended_by [] (shuts_of (known_of k).finishes) (end_of (known_of k))

not_empty : (t : ℕ) (w : List WorldEvent) → is_empty (due t w) ≡ false → is_idle t w ≡ false
not_empty t w h = and_right (is_born t w && not (is_ended t w)) (is_empty (due t w)) h

-- who isn't free may begin nothing
pub busy_is_not_idle : (w : List WorldEvent) (s : LiveState) (i : ℕ) (k : TaskLine) → TaskStands w s i k → is_free k ≡ false
    → is_idle k.number w ≡ false
busy_is_not_idle w s i k st h =
    elim (cases_Bool (is_idle_course k.course)) [
      | inr e ↦
          not_empty k.number w (ap (λ (ds : List WorldEvent). is_empty ds) st.about.due_is ∙ due_then k k.course e)
      | inl e ↦
          let parked : k.parked ≡ true = by k.parked (subst (λ b. (b && not k.parked) ≡ false) e h) in
          not_empty k.number w (ap (λ (ds : List WorldEvent). is_empty ds) (st.parked parked).due_is)
    ]
  where
    by : (b : Bool) → (true && not b) ≡ false → b ≡ true
    by true e = refl
    by false e = absurd (true≢false e)
