-- How a phaser for threads that wait is made for a handle.
use Rattle.std.specs.Prelude.{◌≡◌, ◌⊎◌, ℕ, List, [], Option, None, Some, Result, Ok, Err}
use Rattle.phase_modes.specs.declared.refusal.Refusal.TheVariants.{Memory}
use Rattle.phase_model.specs.declared.op.Op.{Op}
use Rattle.phase_model.specs.Rules.{Story}
use Rattle.phaser_core.specs.LongLife.{long_limits}
use Rattle.phaser_c.specs.Given.{ops_of, bound_of}
use Rattle.phaser_c.specs.declared.answer.ExportAnswer.{ExportAnswer}
use Rattle.phaser_c.specs.declared.answer.ExportAnswer.TheVariants.{Done, Open, BadOperators, BadBound, Refused}
use Rattle.phaser_c.specs.declared.waiting.Waiting.{Waiting}

-- a phaser that nobody has made yet, of operators and a bound, if both are given
abbrev pub long_unmade : Option (List Op) → Option (Option ℕ) → Result Story ExportAnswer
long_unmade None bound = Err BadOperators
long_unmade (Some ops) None = Err BadBound
long_unmade (Some ops) (Some None) = Err BadBound
long_unmade (Some ops) (Some (Some b)) =
    Ok (record { limits = long_limits; terms = record { ops = ops; bound = Some b }; past = [] })

-- the same of the operators and the bound of these numbers
abbrev pub long_story_given : List ℕ → ℕ → Result Story ExportAnswer
long_story_given ns b = long_unmade (ops_of ns) (bound_of b)

-- it has this story, gives out the number 0 next, and nobody waits at it
abbrev pub IsFresh : Story → Waiting → Type 0
IsFresh s w = (w.cell.state.story ≡ s) × (w.cell.state.next ≡ 0) × (w.cell.parked.items ≡ [])

-- it is made as given
abbrev pub IsNew : Result Story ExportAnswer → Waiting → Type 0
IsNew (Ok s) w = IsFresh s w
IsNew (Err why) w = ⊥

-- how a phaser is made for a handle: one that holds a phaser keeps it; if what was given is bad, the answer says
-- why, and the handle holds none; else it holds the phaser that was given, unless memory is refused
abbrev pub IsMadeFrom : Option Waiting → Option Waiting → Result Story ExportAnswer → ExportAnswer → Type 0
IsMadeFrom (Some w) new given a = (a ≡ Open) × (new ≡ Some w)
IsMadeFrom None new (Err why) a = (a ≡ why) × (new ≡ None)
IsMadeFrom None new (Ok s) a =
    ((v : Waiting) × (a ≡ Done) × (new ≡ Some v) × IsFresh s v) ⊎ ((a ≡ Refused Memory) × (new ≡ None))
