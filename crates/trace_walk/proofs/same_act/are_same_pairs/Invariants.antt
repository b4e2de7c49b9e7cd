use Rattle.std.proofs.Common.{◌≡◌, drop, length}
use Rattle.trace_walk.specs.Follows.{same_pairs}
use Rattle.trace_walk.proofs.same_act.are_same_pairs.Given as goal

abbrev pub invariant-loop-i : goal.invariant-loop-i
invariant-loop-i l = record {
  so_far : same_pairs (drop l.i l.pairs) (drop l.i l.others) ≡ same_pairs l.pairs l.others;
  long : length l.pairs ≡ length l.others;
}
