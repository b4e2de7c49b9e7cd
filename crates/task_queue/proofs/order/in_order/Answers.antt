use Rattle.std.proofs.Common.{sym, subst}
use Rattle.task_queue.proofs.Ordering.{IsOrdering, ordering_begins, ordering_grows}
use Rattle.task_queue.proofs.order.in_order.Goals as goal

pub loop-worker-init : goal.loop-worker-init
loop-worker-init g c =
    let seats = c.args.seats.items in
    subst (λ l. IsOrdering seats seats l 0) (sym c.new-ordered.ensures.items) (ordering_begins seats c.requires)

pub loop-worker-preserved : goal.loop-worker-preserved
loop-worker-preserved g c =
    let e = c.take_seat-seat.ensures in
    ordering_grows c.args.seats.items c.loop-worker.seats.items c.take_seat-seat.new.seats.items c.loop-worker.ordered.items c.add.new.list.items c.take_seat-seat.result c.loop-worker.worker c.loop-worker.invariant e.worker e.out c.in_ok-add.ensures.items
