use Rattle.std.proofs.Common.{length, ap, arith}
use Rattle.task_queue.proofs.Ordering.{out_at}
use Rattle.task_queue.proofs.order.take_seat.Goals as goal

pub returns-clause-out : goal.returns-clause-out
returns-clause-out g c =
    let seats = c.args.seats.now.items in
    out_at seats c.remove.new.self.items c.place_of-at.result c.remove.result (omega (arith, c.place_of-at.ensures.within, ap (λ l. length l) c.deref.ensures.value)) c.remove.ensures.value c.remove.ensures.by_index.2
