-- What the words of the folds stand for. From word 24 on there is one for each accumulator: what it holds of the values
-- of the phase before, if that is known. Who ends a round writes them, and who stands reads them.
use Rattle.std.specs.Prelude.{◌%◌, ◌≤◌, zero, suc, ◌≡◌, ℕ, ℤ, ◌+◌, ◌<◌, Bool, true, List, [], ◌∷◌, Option, None, Some, Ok, slice_index}
use Rattle.std.specs.Int.{cast_signed, w64}
use mathlib.Core.Option.{some}
use lib.ListN.{get_elem?}
use Rattle.told_history.specs.Tails.{IsTail}
use Rattle.phase_model.specs.declared.history.Event.{Event}
use Rattle.phase_model.specs.declared.call.Call.{Call}
use Rattle.phase_model.specs.declared.call.Call.TheVariants.{Look as look}
use Rattle.phase_model.specs.declared.op.Look.{Look}
use Rattle.phase_model.specs.declared.op.Look.TheVariants.{Value, Nothing}
use Rattle.phase_model.specs.Replies.{Reply}
use Rattle.phase_model.specs.Answers.{look_result}
use Rattle.level_phaser.specs.declared.view.SeatedTask.{SeatedTask}
use Rattle.level_phaser.specs.declared.view.SeatView.{SeatView}
use Rattle.level_phaser.specs.declared.view.Role.{Role}
use Rattle.level_phaser.specs.declared.view.Role.TheVariants.{Stands, Came, Last, Holder, Gone}
use Rattle.level_phaser.specs.Seen.{AreSeated}
use Rattle.level_phaser.specs.Views.{signalled}

-- what the word of a fold stands for, if for anything
abbrev pub fold_in : ℕ → Option (Look ℤ)
fold_in zero = None
fold_in (suc zero) = Some Nothing
fold_in (suc (suc n)) = Some (Value (cast_signed w64 ((n + 9223372036854775808) % 18446744073709551616)))

-- the last to come knows the words of the folds
abbrev pub IsNoted : {S : Type 0} → List ℕ → Role S → Type 0
IsNoted words Stands = Unit {0}
IsNoted words Came = Unit {0}
IsNoted words (Last x ws) = (a : ℕ) → a < 4 → slice_index words (24 + a) ≡ slice_index ws (24 + a)
IsNoted words (Holder x) = Unit {0}
IsNoted words Gone = Unit {0}

module _ {S : Type 0} (events : S → List Event) (registered : ℕ → S → Bool) (replies : S → Call → Reply)
    (ready : ℕ → S → Type 0) where
  -- such a look is what each task that was registered then is answered, in a history that goes on
  abbrev pub IsFold : S → ℕ → Look ℤ → Type 0
  IsFold begun a l =
      (z : S) × IsTail (events begun) (events z)
      × ((t : ℕ) → registered t begun ≡ true → look_result (replies z (look t a)) ≡ Ok l)

  -- the first n of these words stand for nothing, or for what all are answered
  abbrev pub AreFolds : ℕ → List ℕ → S → Type 0
  AreFolds n words begun =
      (a : ℕ) (l : Look ℤ) → a < n → fold_in (slice_index words (24 + a)) ≡ Some l → IsFold begun a l

  -- who has told nothing since it went on was registered then, and has seen no more
  abbrev pub AreFresh : S → List Event → List SeatedTask → Type 0
  AreFresh begun seen [] = Unit {0}
  AreFresh begun seen (c ∷ cs) =
      (c.fresh ≡ true → (registered c.task begun ≡ true) × IsTail seen (events begun)) × AreFresh begun seen cs

  -- who came in the phase before, and doesn't know yet that its round is over, stood in that history
  abbrev pub IsBehind : S → Role S → List SeatedTask → ℕ → ℕ → List Event → Type 0
  IsBehind begun Stands tasks at phase seen = Unit {0}
  IsBehind begun Came tasks at phase seen =
      at + 1 ≡ phase → IsTail seen (events begun) × AreSeated events registered ready (signalled tasks) begun
  IsBehind begun (Last x ws) tasks at phase seen = Unit {0}
  IsBehind begun (Holder x) tasks at phase seen = Unit {0}
  IsBehind begun Gone tasks at phase seen = Unit {0}

  -- how a seat stands to the beginning of the phase
  abbrev pub Began : S → ℕ → List ℕ → SeatView S → Type 0
  Began begun phase words v =
      IsBehind begun v.role v.tasks v.phase phase v.seen × AreFresh begun v.seen v.tasks × IsNoted words v.role

  -- the phase began with a history that goes on. Unless all have come, the folds are of it
  pub record Begins (width : S → ℕ) (phase : ℕ) (words : List ℕ) (views : List (SeatView S)) (value : S) : Type 0
    where
      pub begun : S
      pub stood : ready phase begun
      pub longer : IsTail (events begun) (events value)
      pub wide : width value ≡ width begun
      pub narrow : width begun ≤ 4
      pub folds : 0 < slice_index words 0 → AreFolds (width begun) words begun
      pub each : (i : ℕ) (v : SeatView S) → get_elem? views i ≡ some v → Began begun phase words v
