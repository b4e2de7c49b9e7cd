use Rattle.std.proofs.Common.{◌≡◌, All, map, length}
use Rattle.task_queue.specs.Reaches.{reach_deque, IsReach, stolen_of}
use Rattle.task_queue.proofs.steals.steal_slow.Given as goal

abbrev pub invariant-loop-step : goal.invariant-loop-step
invariant-loop-step g l = record {
  same : map reach_deque l.reaches ≡ map reach_deque l.initial.reaches;
  ready : All IsReach l.reaches;
  taken : map stolen_of l.reaches ≡ map stolen_of l.initial.reaches;
  length : length l.reaches ≡ length l.initial.reaches;
}
