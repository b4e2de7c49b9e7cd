use Rattle.std.proofs.Common.{◌≡◌, vec_len}
use Rattle.task_queue.specs.Accounts.{AreTogether}
use Rattle.run_tests.proofs.runs.queues.first_in_first_out.Given as goal

abbrev pub invariant-loop-item : goal.invariant-loop-item
invariant-loop-item g l = record {
  one : vec_len l.seats ≡ 1;
  together : AreTogether l.seats.items;
}

abbrev pub invariant-loop-item-2 : goal.invariant-loop-item-2
invariant-loop-item-2 g l = record {
  one : vec_len l.seats ≡ 1;
  together : AreTogether l.seats.items;
}
