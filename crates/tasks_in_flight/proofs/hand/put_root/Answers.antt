use Rattle.std.proofs.Common.{subst, arith}
use Rattle.task_queue.specs.Accounts.{IsSeatOf}
use Rattle.task_queue.proofs.Ordering.{together_set}
use Rattle.task_queue.proofs.Taking.{seat_after_put}
use Rattle.tasks_in_flight.proofs.hand.put_root.Goals as goal

pub returns-clause-together : goal.returns-clause-together
returns-clause-together g c =
    let seats = c.args.seats.now in
    let old = c.index_mut.result.now in
    let new = c.put.new.seat in
    together_set seats.items 0 old new (omega (arith, c.requires.some, seats.ok.0))
    (subst (λ s. IsSeatOf s new) c.index_mut.ensures.value (seat_after_put old new c.args.root c.put.result c.put.ensures)) c.requires.together
