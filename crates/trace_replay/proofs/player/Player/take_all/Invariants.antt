use Rattle.std.proofs.Common.{[]}
use Rattle.phase_modes.specs.declared.limits.Limits.{Limits}
use Rattle.trace_replay.specs.inner.HandedOver.{HandedOver, HandedUpTo}
use Rattle.trace_replay.proofs.player.Player.take_all.Given as goal

abbrev pub invariant-loop-index : goal.invariant-loop-index
invariant-loop-index l = (limits : Limits) → HandedOver limits [] l.fn.self
    → HandedUpTo limits l.trace.events l.index l.self
