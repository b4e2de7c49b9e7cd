use Rattle.std.proofs.Common.{sym}
use Rattle.live_rt.specs.inner.Places.{spot}
use Rattle.live_rt.proofs.Seen.{in_its_slot}
use Rattle.live_rt.proofs.shared.Shared.held.Goals as goal

pub returns-in-Some-clause-slot : goal.returns-in-Some-clause-slot
returns-in-Some-clause-slot g c =
    let p = c.in-Some.place in
    (in_its_slot c.args.phaser c.args.task.now.places (spot p.at p.me p.seen.items) (sym c.in-Some.ensures.found), c.if-place-self.true)
