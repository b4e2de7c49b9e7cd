-- What a call would return that isn't made, as a reply.
use Rattle.std.specs.Prelude.{◌<◌, ◌^◌, Result, Ok, Err}
use Rattle.phase_modes.specs.declared.refusal.Refusal.{Refusal}
use Rattle.phase_model.specs.declared.call.Reply.{Reply}
use Rattle.phase_model.specs.declared.call.Reply.TheVariants.{Phase, Claim, NotYet, Refused}
use Rattle.phaser_engine.specs.declared.turn.Unmade.{Unmade}
use Rattle.phaser_engine.specs.declared.turn.Unmade.TheVariants.{Held}
use Rattle.phaser_engine.specs.declared.turn.Unmade.TheVariants as unmades
use Rattle.phaser_engine.specs.declared.turn.Turn.{Turn}
use Rattle.phaser_engine.specs.declared.turn.Turn.TheVariants.{Passes, Claims, Waits}

-- of a signal that would not be made
abbrev pub unmade_reply : Unmade → Reply
unmade_reply (unmades.Refused r) = Refused r
unmade_reply Held = NotYet

-- of a `pass` that would go on like this
abbrev pub turn_reply : Result Turn Refusal → Reply
turn_reply (Ok (Passes i p)) = Phase p
turn_reply (Ok (Claims o n)) = Claim n
turn_reply (Ok Waits) = NotYet
turn_reply (Err r) = Refused r

-- a turn whose phase has 32 bits
abbrev pub IsShortTurn : Turn → Type 0
IsShortTurn (Passes i p) = p < 2 ^ 32
IsShortTurn (Claims o n) = Unit {0}
IsShortTurn Waits = Unit {0}
