use Rattle.std.proofs.Common.{arith}
use Rattle.task_queue.proofs.Ordering.{absent}
use Rattle.task_queue.proofs.order.place_of.Goals as goal

pub unreachable-requires : goal.unreachable-requires
unreachable-requires g c =
    absent c.args.seats.now c.args.worker c.requires (λ k lt. c.loop-at.invariant k (omega (arith, lt, c.loop-at-test.false)))
