use Rattle.std.proofs.Common.{ap}
use Rattle.std.specs.Ordering.{nat_cmp}
use Rattle.std.specs.Map.{lookup}
use Rattle.std.specs.BTreeMap.{is_at}
use Rattle.trace_walk.specs.inner.Seats.{seat_of}
use Rattle.trace_walk.proofs.Seating.{start_told}
use Rattle.trace_walk.proofs.seats.Seats.new.Goals as goal

pub returns-clause-told : goal.returns-clause-told
returns-clause-told g c =
    start_told g.B.Goes.next c.args.root (seat_of c.new.result) (seat_of c.give.new.self.seats)
    (λ u. ap (λ es. lookup (is_at (nat_cmp u)) es) c.new.ensures.empty) c.in_ok-give.ensures.seated
