use Rattle.std.proofs.Common.{◌≡◌, take}
use Rattle.trace_walk.specs.History.{history}
use Rattle.trace_walk.specs.inner.Holding.{stay_of}
use Rattle.trace_walk.proofs.phasers_held.mode_on.Given as goal

abbrev pub invariant-loop-place : goal.invariant-loop-place
invariant-loop-place l = l.stay ≡ stay_of l.task l.phaser (history (take l.place l.trace.events))
