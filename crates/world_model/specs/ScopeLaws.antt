-- Laws of finishes and tasks: what a child may get, how many phasers a task is on, and who is left if a finish is shut.
use Rattle.std.specs.Prelude.{ℕ, ◌≤◌, ◌≡◌, true, false, List, ◌∷◌, ◌++◌, length}
use Rattle.phase_modes.specs.declared.reg.Mode.{Mode}
use Rattle.phase_model.specs.Tasks.{is_live}
use Rattle.phase_model.specs.Conditions.{is_within_task}
use Rattle.finish_core.specs.Finish.{is_spawned}
use Rattle.finish_core.specs.declared.event.FinishEvent.TheVariants.{Shut as Shutting}
use Rattle.world_model.specs.declared.event.WorldEvent.{WorldEvent}
use Rattle.world_model.specs.declared.event.Step.TheVariants.{Reg}
use Rattle.world_model.specs.declared.event.WorldEvent.TheVariants.{Phaser, Finish}
use Rattle.world_model.specs.Laws.{OfEachWorld}
use Rattle.world_model.specs.Scopes.{inner, owner, enclosing}
use Rattle.world_model.specs.Parts.{phaser_past, finish_past}
use Rattle.world_model.specs.Tasks.{is_born, is_ended, phasers_of}
use Rattle.world_model.specs.ActConditions.{most_phasers_held}
use Rattle.world_model.specs.Numbers.{is_finish}

-- a child gets no capability that its spawner lacks,
-- and comes only to phasers that its spawner's innermost finish encloses
abbrev pub RegistrationsAreWithin : Type 0
RegistrationsAreWithin = OfEachWorld (λ l w.
    (later before : List WorldEvent) (n q t : ℕ) (m : Mode) → w ≡ later ++ Phaser n (Reg q t m) ∷ before
    → (is_within_task m q (phaser_past n before) ≡ true) × (inner q before ≡ enclosing n before))

-- a task, a child that is being spawned too, is never on more than 16 phasers
abbrev pub PhasersHeldAreFew : Type 0
PhasersHeldAreFew = OfEachWorld (λ l w. (t : ℕ) → length (phasers_of t w) ≤ most_phasers_held)

-- t was spawned in f, or in a finish that a task opened that is itself inside f
pub data Inside (w : List WorldEvent) (f : ℕ) : ℕ → Type 0 where
  spawned : {t : ℕ} → is_spawned t (finish_past f w) ≡ true → Inside w f t
  further : {t : ℕ} (g : ℕ) → is_finish g w ≡ true → is_spawned t (finish_past g w) ≡ true
      → Inside w f (owner g w) → Inside w f t

-- if f is shut, each task inside it has ended, and nobody is left on a phaser that f encloses
abbrev pub ShutsLeaveNobody : Type 0
ShutsLeaveNobody = OfEachWorld (λ l w.
    (later before : List WorldEvent) (f : ℕ) → w ≡ later ++ Finish f Shutting ∷ before
    → ((t : ℕ) → Inside before f t → is_ended t before ≡ true)
    × ((t n : ℕ) → enclosing n before ≡ f → is_live t (phaser_past n before) ≡ false))

-- if the root has ended, each task has, and none is registered on any phaser
abbrev pub EndedRootsLeaveNobody : Type 0
EndedRootsLeaveNobody = OfEachWorld (λ l w. is_ended 0 w ≡ true
    → ((t : ℕ) → is_born t w ≡ true → is_ended t w ≡ true)
    × ((t n : ℕ) → is_live t (phaser_past n w) ≡ false))
