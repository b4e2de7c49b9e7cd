use Rattle.std.proofs.Common.{refl}
use Rattle.live_rt.specs.inner.Places.{spot}
use Rattle.live_rt.proofs.Spots.{found_none, of_none, set_here, set_others}
use Rattle.live_rt.proofs.places.Places.set.Goals as goal

pub returns-in-Some-clause-here : goal.returns-in-Some-clause-here
returns-in-Some-clause-here g c =
    let here = set_here c.self.inside.list.items c.deref.result.now (λ p. spot p.at p.me p.seen.items) c.in-Some.i c.args.place c.deref.ensures.value c.in-Some.ensures.there in
    rw here refl

pub returns-in-Some-clause-others : goal.returns-in-Some-clause-others
returns-in-Some-clause-others g c =
    set_others c.self.inside.list.items c.deref.result.now (λ p. spot p.at p.me p.seen.items) c.in-Some.i c.args.place c.args.self.now c.self.view_is c.deref.ensures.value c.in-Some.ensures.there

pub returns-in_default-clause-here : goal.returns-in_default-clause-here
returns-in_default-clause-here g c =
    of_none _ _ (found_none c.self.inside.list.items c.deref.result.now (λ p. spot p.at p.me p.seen.items) c.args.place.at.slot c.args.self.now c.self.view_is c.deref.ensures.value (c.in_default.ensures.none refl))
