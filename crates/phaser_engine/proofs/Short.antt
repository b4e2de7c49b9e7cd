-- On a phaser whose history is short, phases have 32 bits and sums 64.
use Rattle.std.proofs.Common.{ℕ, ◌+◌, ◌<◌, ◌≤◌, ◌^◌, List, length, Option, Some, None, IfSome, Result, Ok, Err, IfOk, ℤ, arith}
use Rattle.std.proofs.lemmas.Int.{ints}
use Rattle.phase_modes.specs.declared.refusal.Refusal.{Refusal}
use Rattle.phase_model.specs.declared.op.Look.{Look}
use Rattle.phase_model.specs.declared.op.Look.TheVariants.{Value, Nothing}
use Rattle.phase_model.specs.Rules.{Story}
use Rattle.phase_model.proofs.LiveTasks.{waits_within}
use Rattle.phase_model.specs.declared.answer.Passing.{Passing}
use Rattle.phase_model.specs.declared.answer.Passing.TheVariants.{Passed, Claimed, NotYet}
use Rattle.phase_model.specs.Short.{IsShortLook, IsShortPassing}
use Rattle.acc_cells.specs.Cells.{IsInReach}
use Rattle.reg_table.specs.declared.table.Entry.{Entry}
use Rattle.phaser_engine.specs.declared.turn.Turn.{Turn}
use Rattle.phaser_engine.specs.declared.turn.Turn.TheVariants.{Passes, Claims, Waits}
use Rattle.phaser_engine.specs.Outcomes.{IsShortTurn}
use Rattle.phaser_engine.specs.Turns.{IsTurn, IsEarly}

-- what few values come to
pub short_by : (n : ℕ) (x : Look ℤ) → n ≤ 65536 → IsInReach n x → IsShortLook x
short_by n (Value v) few reach = (omega (arith, ints, few, reach.0), omega (arith, ints, few, reach.1))
short_by n Nothing few reach = tt

-- what a look sees, if it isn't refused
pub short_if_seen : (n : ℕ) (r : Result (Look ℤ) Refusal) → n ≤ 65536 → IfOk r (λ x. IsInReach n x)
    → IfOk r (λ x. IsShortLook x)
short_if_seen n (Ok x) few reach = short_by n x few reach
short_if_seen n (Err r) few reach = tt

-- a pass among few events
pub short_if_early : (n : ℕ) (r : Result (Passing ℕ) Refusal) → n ≤ 65536 → IfOk r (λ x. IsEarly n x)
    → IfOk r (λ x. IsShortPassing x)
short_if_early n (Ok (Passed p)) few early = omega (arith, few, early)
short_if_early n (Ok (Claimed m)) few early = tt
short_if_early n (Ok NotYet) few early = tt
short_if_early n (Err r) few early = tt

-- a turn after few events
pub short_turn : (s : Story) (lines : List Entry) (t : ℕ) (r : Result Turn Refusal) → length s.past ≤ 65536
    → IfOk r (IsTurn s lines t) → IfOk r (λ x. IsShortTurn x)
short_turn s lines t (Ok (Passes i p)) few turn = omega (arith, turn.2, waits_within t s.past, few)
short_turn s lines t (Ok (Claims o n)) few turn = tt
short_turn s lines t (Ok Waits) few turn = tt
short_turn s lines t (Err r) few turn = tt
