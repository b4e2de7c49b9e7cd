use Rattle.std.proofs.Common.{◌≡◌, drop, length}
use Rattle.trace_walk.specs.Follows.{same_ops}
use Rattle.trace_walk.proofs.same_act.are_same_ops.Given as goal

abbrev pub invariant-loop-i : goal.invariant-loop-i
invariant-loop-i l = record {
  so_far : same_ops (drop l.i l.ops) (drop l.i l.others) ≡ same_ops l.ops l.others;
  long : length l.ops ≡ length l.others;
}
