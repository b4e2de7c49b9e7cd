use Rattle.std.proofs.Common.{take}
use Rattle.phaser_engine.specs.Line.{waiters_at}
use Rattle.phaser_engine.specs.Rears.{IsRear}
use Rattle.phaser_engine.proofs.roll.rear_of_waiters.Given as goal

abbrev pub invariant-loop-line : goal.invariant-loop-line
invariant-loop-line l = IsRear (waiters_at (take l.line-index l.lines)) l.rear
