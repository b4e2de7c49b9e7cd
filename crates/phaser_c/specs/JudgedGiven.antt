-- The events that C gives to a judge, as numbers.
use Rattle.std.specs.Prelude.{ℕ, List, [], ◌∷◌, take, min, slice_get, nat_le, if◌then◌else◌, Option, None, Some, Result, Ok, Err}
use Rattle.phase_modes.specs.declared.reg.Mode.{Mode}
use Rattle.phase_model.specs.declared.op.Op.{Op}
use Rattle.phase_model.specs.declared.op.Look.TheVariants.{Value, Nothing}
use Rattle.phaser_judge.specs.declared.event.Named.{Named}
use Rattle.phaser_judge.specs.declared.event.Named.TheVariants as named
use Rattle.phaser_judge.specs.declared.event.NamedEvent.{NamedEvent}
use Rattle.phaser_c.specs.Given.{mode_of, ops_of, bound_of}
use Rattle.phaser_c.specs.declared.answer.ExportAnswer.{ExportAnswer}
use Rattle.phaser_c.specs.declared.answer.ExportAnswer.TheVariants.{BadKind, BadMode, BadOperators, BadBound}
use Rattle.phaser_c.specs.declared.judge_given.EventKind.{EventKind}
use Rattle.phaser_c.specs.declared.judge_given.EventKind.TheVariants.{Make, Reg, Sig, SigSingle, Claim, Did, Pass, Send, Look, LookNothing, Drop}
use Rattle.phaser_c.specs.declared.judge_given.GivenEvent.{GivenEvent}

-- the kind of this number
abbrev pub kind_of : ℕ → Option EventKind
kind_of number = slice_get
    (Make ∷ Reg ∷ Sig ∷ SigSingle ∷ Claim ∷ Did ∷ Pass ∷ Send ∷ Look ∷ LookNothing ∷ Drop ∷ []) number

-- the operators of the first numbers of the event: so many as it says, if they are at most four
abbrev pub ops_given : GivenEvent → Option (List Op)
ops_given g = if nat_le g.operator_count 4 then ops_of (take g.operator_count g.operators) else None

-- no phaser has an accumulator from 4 on, so those beyond 255 are all one
abbrev pub accumulator_given : GivenEvent → ℕ
accumulator_given g = min g.accumulator 255

-- the making of a phaser, of a mode, operators and a bound, if each is one
abbrev pub make_of : ℕ → Option Mode → Option (List Op) → Option (Option ℕ) → Result Named ExportAnswer
make_of t None ops b = Err BadMode
make_of t (Some m) None b = Err BadOperators
make_of t (Some m) (Some ops) None = Err BadBound
make_of t (Some m) (Some ops) (Some b) = Ok (named.Make t m ops b)

-- a registration, if its mode is one
abbrev pub reg_of : ℕ → ℕ → Option Mode → Result Named ExportAnswer
reg_of q t None = Err BadMode
reg_of q t (Some m) = Ok (named.Reg q t m)

-- what happened, of an event of this kind
abbrev pub named_by : EventKind → GivenEvent → Result Named ExportAnswer
named_by Make g = make_of g.task (mode_of g.mode) (ops_given g) (bound_of g.bound)
named_by Reg g = reg_of g.task g.child (mode_of g.mode)
named_by Sig g = Ok (named.Sig g.task None)
named_by SigSingle g = Ok (named.Sig g.task (Some g.single))
named_by Claim g = Ok (named.Claim g.task)
named_by Did g = Ok (named.Did g.task)
named_by Pass g = Ok (named.Pass g.task)
named_by Send g = Ok (named.Send g.task (accumulator_given g) g.value)
named_by Look g = Ok (named.Look g.task (accumulator_given g) (Value g.seen))
named_by LookNothing g = Ok (named.Look g.task (accumulator_given g) Nothing)
named_by Drop g = Ok (named.Drop g.task)

-- the same, if the kind is one
abbrev pub named_of : Option EventKind → GivenEvent → Result Named ExportAnswer
named_of None g = Err BadKind
named_of (Some k) g = named_by k g

-- the same at this phaser
abbrev pub at_phaser : ℕ → Result Named ExportAnswer → Result NamedEvent ExportAnswer
at_phaser p (Ok e) = Ok (record { phaser = p; event = e })
at_phaser p (Err why) = Err why

-- the event that is given, or why its numbers are none
abbrev pub event_given : GivenEvent → Result NamedEvent ExportAnswer
event_given g = at_phaser g.phaser (named_of (kind_of g.kind) g)
