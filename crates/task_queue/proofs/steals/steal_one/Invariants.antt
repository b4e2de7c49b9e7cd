use Rattle.std.proofs.Common.{◌≡◌}
use Rattle.task_queue.specs.Reaches.{reach_deque, IsReach, stolen_of}
use Rattle.task_queue.proofs.steals.steal_one.Given as goal

abbrev pub invariant-loop : goal.invariant-loop
invariant-loop g l = record {
  same : reach_deque l.reach ≡ reach_deque l.initial.reach;
  ready : IsReach l.reach;
  taken : stolen_of l.reach ≡ stolen_of l.initial.reach;
}
