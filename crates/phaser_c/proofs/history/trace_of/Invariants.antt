use Rattle.std.proofs.Common.{◌≡◌, take}
use Rattle.phaser_c.proofs.history.trace_of.Given as goal

abbrev pub invariant-loop-place : goal.invariant-loop-place
invariant-loop-place l = l.trace ≡ record { limits = l.fn.limits; events = take l.place l.part }
