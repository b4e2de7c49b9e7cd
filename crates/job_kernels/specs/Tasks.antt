-- What the tasks of both kernels hear, and what it is that a task goes by.
use Rattle.std.specs.Prelude.{ℕ, ℤ, pos, negsuc, ◌≡◌, nat_le, if◌then◌else◌, List, [], ◌∷◌, Option, Some, None, unwrap_or}
use Rattle.phase_modes.specs.declared.reg.Mode.{Mode}
use Rattle.phase_modes.specs.declared.phased.Pair.{Pair}
use Rattle.phase_model.specs.declared.op.Look.{Look}
use Rattle.phase_model.specs.declared.op.Look.TheVariants.{Value, Nothing}
use Rattle.phase_model.specs.declared.op.Op.TheVariants.{Sum, Least}
use Rattle.phase_model.specs.Values.{fold}
use Rattle.job_script.specs.declared.act.Act.{Act}
use Rattle.job_script.specs.declared.act.Act.TheVariants.{End}
use Rattle.job_script.specs.declared.act.Answer.{Answer}
use Rattle.job_script.specs.declared.act.Answer.TheVariants.{Saw}

-- a phaser of a spawn
abbrev pub pair_on : ℕ → Mode → Pair
pair_on phaser mode = record { phaser = phaser; mode = mode }

-- ---- what is heard

-- a number, if it isn't negative and at most this
abbrev pub number_in : ℕ → ℤ → Option ℕ
number_in most (pos n) = if nat_le n most then Some n else None
number_in most (negsuc n) = None

abbrev pub look_in : ℕ → Look ℤ → Option ℕ
look_in most (Value v) = number_in most v
look_in most Nothing = None

-- the value that was seen, if one was: a number that isn't negative and at most this
abbrev pub seen_in : ℕ → Answer → Option ℕ
seen_in most (Saw look) = look_in most look
seen_in most _ = None

-- it; 0 if none was
abbrev pub value_of : ℕ → Answer → ℕ
value_of most answer = unwrap_or (seen_in most answer) 0

-- ---- what a task goes by

-- what a task does next, and what it is after that
abbrev pub Does : Type 0 → Type 0
Does B = Act B × B

-- an act, and what the task hears of it
abbrev pub Line : Type 0 → Type 0
Line B = Act B × Answer

-- a task goes by these lines: it does one act after the other, if it hears of each what its line
-- says, and then ends
abbrev pub GoesBy : {B : Type 0} → (Answer → B → Does B) → Does B → List (Line B) → Type 0
GoesBy next does [] = does.0 ≡ End
GoesBy next does (line ∷ lines) = (does.0 ≡ line.0) × GoesBy next (next line.1 does.1) lines

-- ---- what a phase folds to

-- a law: if one value is sent for a phase, that is its sum, and its least; and none has no least. So a
-- look at it sees the value that was sent, or none
abbrev pub LoneValuesAreSeen : Type 0
LoneValuesAreSeen = (v : ℤ) →
    (fold Sum (v ∷ []) ≡ Value v) × (fold Least (v ∷ []) ≡ Value v) × (fold Least [] ≡ Nothing)
