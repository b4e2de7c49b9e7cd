use Rattle.std.proofs.Common.{subst, arith}
use Rattle.task_queue.specs.Accounts.{IsSeatOf}
use Rattle.task_queue.proofs.Ordering.{together_set}
use Rattle.task_queue.proofs.Taking.{seat_after_take}
use Rattle.run_tests.proofs.runs.queues.take_at.Goals as goal

pub returns-clause-together : goal.returns-clause-together
returns-clause-together g c =
    let seats = c.args.seats.now in
    let old = c.index_mut.result.now in
    let new = c.take.new.seat in
    together_set seats.items c.args.at old new (omega (arith, c.requires.at, seats.ok.0)) (subst (λ s. IsSeatOf s new) c.index_mut.ensures.value (seat_after_take old new c.take.result c.take.ensures)) c.requires.together
