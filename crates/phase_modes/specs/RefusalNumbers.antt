-- Which refusal has a number: what reports and traces tell by its number alone.
use Rattle.std.specs.Prelude.{ℕ, List, [], ◌∷◌, ◌==◌, Option}
use Rattle.std.specs.List.{find}
use Rattle.phase_modes.specs.declared.refusal.Refusal.{Refusal}
use Rattle.phase_modes.specs.declared.refusal.Refusal.TheVariants.{NotRegistered, NoSignal, NoWait, NoSingle, AlreadySignalled, NotSignalled, SingleMismatch, OnePhaserOnly, NoAccumulator, NoPhaseYet, MoreThanParent, OutsideScope, RegisteredTwice, RegsFull, HistoryFull, PhasersFull, TasksFull, FinishesFull, ActsFull, FinishOpen, NoFinish, NotNow, Memory, BadText, NotExplained, SharesDiffer}
use Rattle.phase_modes.specs.Refusal.{number_of}

-- the refusals, in the order of their numbers; if one names a place, with place 0
abbrev pub refusals : List Refusal
refusals =
    NotRegistered ∷ NoSignal ∷ NoWait ∷ NoSingle ∷ AlreadySignalled ∷ NotSignalled ∷
    SingleMismatch ∷ OnePhaserOnly ∷ NoAccumulator ∷ NoPhaseYet ∷ MoreThanParent ∷ OutsideScope ∷
    RegisteredTwice ∷ RegsFull ∷ HistoryFull ∷ PhasersFull ∷ TasksFull ∷ FinishesFull ∷ ActsFull ∷
    FinishOpen ∷ NoFinish ∷ NotNow ∷ Memory ∷ BadText 0 ∷ NotExplained 0 ∷ SharesDiffer ∷ []

-- the refusal of this number, if one has it
abbrev pub refusal_with : ℕ → Option Refusal
refusal_with n = find (λ r. number_of r == n) refusals
