use Rattle.std.proofs.Common.{◌≡◌, true, not, refl, ap, ◌∙◌}
use Rattle.std.specs.Result.{is_ok}
use Rattle.live_rt.specs.inner.Places.{spot}
use Rattle.live_rt.proofs.Spots.{push_here, push_others, set_here, set_others}
use Rattle.live_rt.proofs.places.Places.add.Goals as goal

pub returns-in-Some-clause-here : goal.returns-in-Some-clause-here
returns-in-Some-clause-here g c =
    set_here c.self.inside.list.items c.deref.result.now (λ p. spot p.at p.me p.seen.items) c.in-Some.i c.args.place c.deref.ensures.value c.in-Some.ensures.there

pub returns-in-Some-clause-others : goal.returns-in-Some-clause-others
returns-in-Some-clause-others g c =
    set_others c.self.inside.list.items c.deref.result.now (λ p. spot p.at p.me p.seen.items) c.in-Some.i c.args.place c.args.self.now c.self.view_is c.deref.ensures.value c.in-Some.ensures.there

pub returns-else-is_err-clause-here : goal.returns-else-is_err-clause-here
returns-else-is_err-clause-here g c =
    let ok : is_ok c.push.result ≡ true = c.is_err.ensures.negation ∙ ap not c.if-is_err.false in
    push_here c.self.inside.list.items c.deref.result.now c.push.new.self.items (λ p. spot p.at p.me p.seen.items) c.args.place c.deref.ensures.value (rw ok at c.push.ensures.items) (c.in-None.ensures.none refl)

pub returns-else-is_err-clause-others : goal.returns-else-is_err-clause-others
returns-else-is_err-clause-others g c =
    let ok : is_ok c.push.result ≡ true = c.is_err.ensures.negation ∙ ap not c.if-is_err.false in
    push_others c.self.inside.list.items c.push.new.self.items (λ p. spot p.at p.me p.seen.items) c.args.place c.args.self.now c.self.view_is (rw ok at c.push.ensures.items)
