-- Tasks and finishes that an event leaves as they are.
use Rattle.std.proofs.Common.{◌≡◌, ℕ, ◌==◌, Bool, true, false, not, List, [], ◌∷◌, refl, sym, ap, ◌∙◌}
use Rattle.std.proofs.lemmas.Bool.{and_parts, eqb-true, not-true, false_from_ne_true, true≢false, false≢true}
use Rattle.phase_modes.specs.Lists.{is_empty}
use Rattle.finish_core.specs.declared.event.FinishEvent.{FinishEvent}
use Rattle.finish_core.specs.Finish.{is_open}
use Rattle.world_model.specs.declared.event.WorldEvent.{WorldEvent}
use Rattle.world_model.specs.Actors.{actor}
use Rattle.world_model.specs.Due.{due, is_idle}
use Rattle.world_model.specs.Numbers.{is_finish}
use Rattle.world_model.specs.Parts.{finish_past}
use Rattle.world_model.specs.Replies.{is_legal_world}
use Rattle.world_model.specs.Tasks.{is_born, is_ended, spawns, ends}
use Rattle.task_standing.specs.Histories.{IsAbout}
use Rattle.task_standing.specs.StillToMake.{planned}
use Rattle.task_standing.proofs.Others.{others_leave}
use Rattle.live_world.specs.declared.course.Course.{Course}
use Rattle.live_world.specs.declared.course.Course.TheVariants as course
use Rattle.live_world.specs.Live.{TaskLine, LiveState, live_limits, known_of, plan_of, is_free, is_idle_course}
use Rattle.live_world.specs.StandsFor.{TaskStands}

-- the task of this line was born, goes on, and knows what the history says
pub record Goes (w : List WorldEvent) (k : TaskLine) : Type 0 where
  pub born : is_born k.number w ≡ true
  pub goes_on : is_ended k.number w ≡ false
  pub about : IsAbout w (known_of k)

pub goes_of : (w : List WorldEvent) (s : LiveState) (i : ℕ) (k : TaskLine) → TaskStands w s i k → Goes w k
goes_of w s i k st = record { born = st.born; goes_on = st.goes_on; about = st.about }

-- so it does after an event of another task that doesn't spawn it, nor ends it
pub goes_by_others : (e : WorldEvent) (w : List WorldEvent) (k : TaskLine) → is_legal_world live_limits (e ∷ w) ≡ true
    → (actor w e == k.number) ≡ false → spawns k.number e ≡ false → ends k.number e ≡ false → Goes w k → Goes (e ∷ w) k
goes_by_others e w k legal other spawned ended g = record {
  born = rw spawned g.born;
  goes_on = rw ended g.goes_on;
  about = others_leave live_limits e w (known_of k) legal g.born other g.about;
}

-- a task that is free has nothing due
pub free_is_idle_course : (k : TaskLine) → is_free k ≡ true → k.course ≡ course.Idle
free_is_idle_course k h = by k.course (and_parts (is_idle_course k.course) (not k.parked) h).0
  where
    by : (c : Course) → is_idle_course c ≡ true → c ≡ course.Idle
    by course.Idle e = refl
    by course.Shutting e = absurd (false≢true e)
    by course.Ending e = absurd (false≢true e)

pub free_is_not_parked : (k : TaskLine) → is_free k ≡ true → k.parked ≡ false
free_is_not_parked k h = not-true k.parked (and_parts (is_idle_course k.course) (not k.parked) h).1

pub free_is_idle : (w : List WorldEvent) (k : TaskLine) → is_free k ≡ true → Goes w k → is_idle k.number w ≡ true
free_is_idle w k h g =
    let none : due k.number w ≡ [] =
    g.about.due_is ∙ ap (λ c. planned (known_of k) (plan_of c)) (free_is_idle_course k h) in
    rw (g.born, g.goes_on, none) refl

-- a finish that was never opened has no history
pub no_history : (f : ℕ) (w : List WorldEvent) → is_finish f w ≡ false → finish_past f w ≡ []
no_history f w h = by (finish_past f w) h
  where
    by : (xs : List FinishEvent) → not (is_empty xs) ≡ false → xs ≡ []
    by [] e = refl
    by (x ∷ xs) e = absurd (true≢false e)

-- a finish that is open was opened
pub open_is_finish : (f : ℕ) (w : List WorldEvent) → is_open (finish_past f w) ≡ true → is_finish f w ≡ true
open_is_finish f w h = (and_parts (is_finish f w) _ h).0

-- two that differ by a test differ
pub differ_by : (test : ℕ → Bool) (a b : ℕ) → test a ≡ false → test b ≡ true → (a == b) ≡ false
differ_by test a b x y = false_from_ne_true (a == b) (λ e. true≢false (sym y ∙ ap test (sym (eqb-true a b e)) ∙ x))
