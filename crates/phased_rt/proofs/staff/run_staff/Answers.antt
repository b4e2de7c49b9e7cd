use Rattle.std.proofs.Common.{map}
use Rattle.phased_rt.proofs.Seats.{together_back}
use Rattle.phased_rt.proofs.staff.run_staff.Goals as goal

pub gather_all-requires-clause-together : goal.gather_all-requires-clause-together
gather_all-requires-clause-together g c =
    together_back (map (λ w. w.hand.seat) c.args.staff.items) c.in_ok-left.left.seats.items c.in_ok-left.ensures.seats c.requires.together
