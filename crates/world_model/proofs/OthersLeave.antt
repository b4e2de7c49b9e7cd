-- What an event of another task leaves as it was.
use Rattle.std.proofs.Common.{◌≡◌, ℕ, true, false, ◌==◌, List, ◌∷◌, refl}
use Rattle.std.specs.Prelude.{drop}
use Rattle.finish_core.specs.declared.event.FinishEvent.TheVariants.{Spawned}
use Rattle.world_model.specs.declared.event.Step.TheVariants.{Pass}
use Rattle.world_model.specs.declared.event.WorldEvent.{WorldEvent}
use Rattle.world_model.specs.declared.event.WorldEvent.TheVariants.{Phaser, Finish, Begin, Refuse, Fail}
use Rattle.world_model.specs.Tasks.{spawns}
use Rattle.world_model.specs.Actors.{actor}
use Rattle.world_model.specs.Due.{due, is_entry, is_of_single}
use Rattle.world_model.specs.Clock.{clock}
use Rattle.world_model.specs.TaskConditions.{last_entry}

-- an entry is made by the task whose log it is in
entry_other : (t : ℕ) (e : WorldEvent) (w : List WorldEvent) → (actor w e == t) ≡ false → is_entry t e ≡ false
entry_other t (Begin u b) w k = k
entry_other t (Refuse u a n) w k = k
entry_other t (Fail u n) w k = k
entry_other t (Phaser n s) w k = refl
entry_other t (Finish f e) w k = refl

pub due_other : (t : ℕ) (e : WorldEvent) (w : List WorldEvent) → (actor w e == t) ≡ false
    → due t (e ∷ w) ≡ due t w
due_other t e w k = rw (entry_other t e w k, k) refl

pub last_other : (t : ℕ) (e : WorldEvent) (w : List WorldEvent) → (actor w e == t) ≡ false
    → last_entry t (e ∷ w) ≡ last_entry t w
last_other t e w k = rw (entry_other t e w k) refl

-- the same of an event that is no entry and part of no act that is due
pub last_plain : (t : ℕ) (e : WorldEvent) (w : List WorldEvent) → is_entry t e ≡ false
    → last_entry t (e ∷ w) ≡ last_entry t w
last_plain t e w k = rw k refl

-- what t makes of its act is due no more
pub due_own : (t : ℕ) (e : WorldEvent) (w : List WorldEvent) → is_entry t e ≡ false → (actor w e == t) ≡ true
    → is_of_single e ≡ false → due t (e ∷ w) ≡ drop 1 (due t w)
due_own t e w a b c = rw (a, b, c) refl

-- the clock moves with t's birth, its passes and its entries alone
pub clock_other : (t : ℕ) (e : WorldEvent) (w : List WorldEvent) → (actor w e == t) ≡ false
    → spawns t e ≡ false → clock t (e ∷ w) ≡ clock t w
clock_other t (Phaser n (Pass u)) w k s = rw k refl
clock_other t (Begin u b) w k s = rw k refl
clock_other t (Finish f (Spawned u)) w k s = rw s refl
clock_other t (Phaser n x) w k s = refl
clock_other t (Finish f x) w k s = refl
clock_other t (Refuse u a n) w k s = refl
clock_other t (Fail u n) w k s = refl
