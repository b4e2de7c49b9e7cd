use Rattle.std.proofs.Common.{◌≡◌, None, arith, refl, sym, ap}
use Rattle.live_rt.specs.inner.Places.{spot}
use Rattle.live_rt.proofs.Spots.{found_none, found_some, set_same}
use Rattle.live_rt.proofs.places.Places.get.Goals as goal

pub returns-in_err-i-clause-found : goal.returns-in_err-i-clause-found
returns-in_err-i-clause-found g c =
    let gone : c.from_residual.result ≡ None = grind arith in
    let none = found_none c.self.inside.list.items c.deref.result.now (λ p. spot p.at p.me p.seen.items) c.args.slot c.args.self.now c.self.view_is c.deref.ensures.value (c.in_err-i.ensures.none refl) in
    rw gone (sym none)

pub returns-clause-found : goal.returns-clause-found
returns-clause-found g c =
    let some = found_some c.self.inside.list.items c.deref.result.now (λ p. spot p.at p.me p.seen.items) c.args.slot c.args.self.now c.in_ok-i.i c.index_mut-place.result.now c.self.view_is c.deref.ensures.value c.in_ok-i.ensures.there c.index_mut-place.ensures.value in
    rw (c.new.ensures.0, c.new.ensures.1, c.new.ensures.2, c.again.ensures.0) some

pub returns-clause-same : goal.returns-clause-same
returns-clause-same g c =
    set_same c.self.inside.list.items (λ p. spot p.at p.me p.seen.items) c.in_ok-i.i c.index_mut-place.result.now _ c.args.self.now c.self.view_is c.index_mut-place.ensures.value
    (ap (λ s. spot c.index_mut-place.result.now.at c.index_mut-place.result.now.me s.items) c.again.ensures.1)
