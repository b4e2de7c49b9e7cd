use Rattle.std.proofs.Common.{◌≡◌, ◌≤◌, drop, length, take}
use Rattle.std.specs.List.{filter_map}
use Rattle.world_model.specs.Drawing.{own_pairs}
use Rattle.trace_walk.specs.Follows.{same_pairs}
use Rattle.trace_model.specs.Explained.{past}
use Rattle.trace_walk.specs.History.{history}
use Rattle.trace_walk.specs.inner.Holding.{pair_by}
use Rattle.trace_walk.proofs.phasers_held.are_own_pairs.Given as goal

abbrev pub invariant-loop-place : goal.invariant-loop-place
invariant-loop-place l = record {
  few : l.found ≤ length l.pairs;
  so_far : same_pairs (drop l.found l.pairs)
      (filter_map (pair_by l.task (history (take l.count l.trace.events)))
      (past (drop l.place (take l.count l.trace.events)))) ≡ same_pairs l.pairs
      (own_pairs l.task (history (take l.count l.trace.events)));
}
