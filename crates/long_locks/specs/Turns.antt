-- Those who are parked make their calls again, one after the other.
use Rattle.std.specs.Prelude.{ℕ, zero, suc, ◌≡◌, true, List, [], ◌∷◌, ◌++◌}
use Rattle.phase_modes.specs.Limits.{is_between}
use Rattle.phase_model.specs.Rules.{Story, is_legal}
use Rattle.phaser_core.specs.declared.parked.Parked.{Parked}
use Rattle.phaser_core.specs.declared.parked.ParkedCall.TheVariants.{Pass as ToPass}
use Rattle.phaser_core.specs.Parking.{are_parked_once}
use Rattle.long_locks.specs.declared.answer.Freed.{Freed}
use Rattle.long_locks.specs.declared.course.Then.{Then}
use Rattle.long_locks.specs.declared.course.Then.TheVariants.{Return}
use Rattle.long_locks.specs.declared.course.Course.{Course}
use Rattle.long_locks.specs.declared.course.Course.TheVariants.{Over, HasSignalled, Waits}
use Rattle.long_locks.specs.Courses.{course, story_after}

-- how things stand: the phaser's story, who is parked, and who was freed
pub record Standing : Type 0 where
  pub story : Story
  pub queue : List (Parked Then)
  pub gone : List Freed

abbrev pub standing : Story → List (Parked Then) → List Freed → Standing
standing s ps fs = record { story = s; queue = ps; gone = fs }

-- parked for its pass
abbrev pub to_pass : ℕ → Parked Then
to_pass t = record { task = t; call = ToPass; item = Return }

-- who is parked after a task's call, which came so far: the task last, unless its call is over
abbrev pub queue_after : Course → Parked Then → List (Parked Then) → List (Parked Then)
queue_after (Over e) p ps = ps
queue_after HasSignalled p ps = ps ++ to_pass p.task ∷ []
queue_after Waits p ps = ps ++ p ∷ []

-- who was freed after the call of a task that was parked: the task last, with how its call ended, if it did
abbrev pub gone_after : Course → ℕ → List Freed → List Freed
gone_after (Over e) t fs = fs ++ record { task = t; ended = e } ∷ []
gone_after HasSignalled t fs = fs
gone_after Waits t fs = fs

-- the first who is parked makes its call
abbrev pub turn_of : Story → List (Parked Then) → List Freed → Standing
turn_of s [] fs = standing s [] fs
turn_of s (p ∷ ps) fs =
    let c = course s p.task p.call p.item in
    standing (story_after s p.task p.call) (queue_after c p ps) (gone_after c p.task fs)

-- that many such calls
abbrev pub turns : ℕ → Standing → Standing
turns zero w = w
turns (suc n) w = let v = turns n w in turn_of v.story v.queue v.gone

-- by calls of those who were parked, and nothing else, the one standing became the other
abbrev pub IsTurned : Standing → Standing → Type 0
IsTurned v w = (n : ℕ) × (turns n v ≡ w)

-- there is room for 256 registrations at most; the history is legal; nobody is parked twice
pub record IsSound (s : Story) (ps : List (Parked Then)) : Type 0 where
  pub regs : is_between 1 s.limits.regs 256 ≡ true
  pub legal : is_legal s.limits s.terms s.past ≡ true
  pub once : are_parked_once ps ≡ true
