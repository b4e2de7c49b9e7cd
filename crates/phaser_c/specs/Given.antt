-- What C gives as numbers.
use Rattle.std.specs.Prelude.{ℕ, List, [], ◌∷◌, ◌++◌, length, slice_get, nat_le, nat_eq, if◌then◌else◌, Option, None, Some, Result, Ok, Err}
use Rattle.std.specs.Option.{option_and_then}
use Rattle.phase_modes.specs.declared.limits.Limits.{Limits}
use Rattle.phase_modes.specs.Limits.{limits_fit}
use Rattle.phase_modes.specs.declared.reg.Mode.{Mode}
use Rattle.phase_modes.specs.declared.reg.Mode.TheVariants.{Sig, Wait, SigWait, Single}
use Rattle.phase_model.specs.declared.op.Op.{Op}
use Rattle.phase_model.specs.declared.op.Op.TheVariants.{Sum, Least, Greatest}
use Rattle.phase_model.specs.Rules.{Story}
use Rattle.phaser_c.specs.declared.answer.ExportAnswer.{ExportAnswer}
use Rattle.phaser_c.specs.declared.answer.ExportAnswer.TheVariants.{BadLimits, BadOperators, BadBound}
use Rattle.phaser_c.specs.declared.given.GivenLimits.{GivenLimits}

-- the mode of this number
abbrev pub mode_of : ℕ → Option Mode
mode_of number = slice_get (Sig ∷ Wait ∷ SigWait ∷ Single ∷ []) number

-- the operator of this number
abbrev pub op_of : ℕ → Option Op
op_of number = slice_get (Sum ∷ Least ∷ Greatest ∷ []) number

-- these operators and behind them those of the numbers, if each is one
abbrev pub with_ops : List Op → List ℕ → Option (List Op)
with_ops ops [] = Some ops
with_ops ops (n ∷ ns) = option_and_then (λ op. with_ops (ops ++ op ∷ []) ns) (op_of n)

-- the operators of at most four numbers, if each is one
abbrev pub ops_of : List ℕ → Option (List Op)
ops_of ns = if nat_le (length ns) 4 then with_ops [] ns else None

-- the limits that are given
abbrev pub limits_of : GivenLimits → Limits
limits_of l = record { acts = l.acts; finishes = l.finishes; history = l.history; phasers = l.phasers; regs = l.regs; tasks = l.tasks }

-- the bound of this number, where 0 is no bound; none where it is over 65,536
abbrev pub bound_of : ℕ → Option (Option ℕ)
bound_of n = if nat_le n 65536 then Some (if nat_eq n 0 then None else Some n) else None

-- a phaser that nobody has made yet, of operators and a bound, if those are given
abbrev pub unmade : Limits → Option (List Op) → Option (Option ℕ) → Result Story ExportAnswer
unmade l None bound = Err BadOperators
unmade l (Some ops) None = Err BadBound
unmade l (Some ops) (Some b) = Ok (record { limits = l; terms = record { ops = ops; bound = b }; past = [] })

-- the same of the operators and the bound of these numbers, if the limits fit
abbrev pub story_given : Limits → List ℕ → ℕ → Result Story ExportAnswer
story_given l ns b = if limits_fit l then unmade l (ops_of ns) (bound_of b) else Err BadLimits
