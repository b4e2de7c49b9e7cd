-- How a turn goes on, and what it does to the last single.
use Rattle.std.specs.Prelude.{ℕ, Bool, ◌≡◌, ◌≤◌, ◌∷◌, ◌&&◌, if◌then◌else◌, List, Option, Some, None, slice_get, unwrap_or, Result, Ok, Err}
use Rattle.std.specs.List.{list_all}
use Rattle.phase_modes.specs.declared.refusal.Refusal.{Refusal}
use Rattle.phase_modes.specs.declared.refusal.Refusal.TheVariants.{SingleMismatch}
use Rattle.phase_model.specs.declared.history.Event.TheVariants.{Claim, Pass}
use Rattle.phase_model.specs.Phases.{waits}
use Rattle.phase_model.specs.Singles.{number_of}
use Rattle.phase_model.specs.Rules.{Story}
use Rattle.phase_model.specs.declared.call.Call.TheVariants.{Pass as pass}
use Rattle.phase_model.specs.Replies.{Reply, reply, refused, not_yet, done}
use Rattle.single_state.specs.declared.statement.Statement.{Statement}
use Rattle.single_state.specs.Single.{is_mismatch, proposed, is_claimable, claimed}
use Rattle.reg_table.specs.declared.table.Entry.{Entry}
use Rattle.phase_model.specs.declared.answer.Passing.{Passing}
use Rattle.phase_model.specs.declared.answer.Passing.TheVariants.{Passed, Claimed, NotYet}
use Rattle.phaser_engine.specs.declared.turn.Unmade.{Unmade}
use Rattle.phaser_engine.specs.declared.turn.Unmade.TheVariants.{Refused, Held}
use Rattle.phaser_engine.specs.declared.turn.Turn.{Turn}
use Rattle.phaser_engine.specs.declared.turn.Turn.TheVariants.{Passes, Claims, Waits}
use Rattle.phaser_engine.specs.Table.{entry_of, IsLastSingle}
use Rattle.phaser_engine.specs.Line.{has_signalled}

-- the last single once a number is proposed for the phase, if one is
abbrev pub proposing : Option Statement → ℕ → Option ℕ → Result (Option Statement) Refusal
proposing o p None = Ok o
proposing o p (Some n) = if is_mismatch o p n then Err SingleMismatch else Ok (proposed o p n)

-- the task of this line may claim: it proposed for its phase, which is closed and unclaimed
abbrev pub claims : List Entry → Option Statement → Entry → Bool
claims table o e =
    e.proposed && list_all (λ f. has_signalled e.reg.phase f.reg) table && is_claimable o e.reg.phase

-- the last single with that claim
abbrev pub claiming : List Entry → Option Statement → Entry → Option (Option Statement)
claiming table o e = if claims table o e then Some (claimed o e.task) else None

-- the reply to a signal that isn't made
abbrev pub unmade : Unmade → Reply
unmade (Refused r) = refused r
unmade Held = not_yet

-- the answer to the task's pass, and what is to be written
abbrev pub IsTurn : Story → List Entry → ℕ → Turn → Type 0
IsTurn s table t (Passes i p) =
    (reply s (pass t) ≡ done (Pass t))
    × (slice_get table i ≡ Some (entry_of s.past t))
    × (p ≡ waits t s.past)
IsTurn s table t (Claims o n) =
    (reply s (pass t) ≡ done (Claim t))
    × IsLastSingle o (Claim t ∷ s.past)
    × (n ≡ unwrap_or (number_of (waits t s.past) s.past) 0)
IsTurn s table t Waits = reply s (pass t) ≡ not_yet

-- a phase that was passed is no later than so many events
abbrev pub IsEarly : ℕ → Passing ℕ → Type 0
IsEarly n (Passed p) = p ≤ n
IsEarly n (Claimed m) = Unit {0}
IsEarly n NotYet = Unit {0}
