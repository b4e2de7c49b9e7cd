use Rattle.std.proofs.Common.{rules}
use Rattle.std.proofs.lemmas.Fn.{filter_same}
use Rattle.live_rt.specs.inner.Places.{spot}
use Rattle.live_rt.proofs.Spots.{remove_here, remove_others}
use Rattle.live_rt.proofs.places.Places.remove.Goals as goal

pub returns-clause-gone : goal.returns-clause-gone
returns-clause-gone g c =
    remove_here c.self.inside.list.items c.retain.new.self.items (λ p. spot p.at p.me p.seen.items) c.args.slot
    (filter_same _ _ _ (λ x b f' k. search rules) _ _ c.retain.ensures.filtered)

pub returns-clause-others : goal.returns-clause-others
returns-clause-others g c =
    remove_others c.self.inside.list.items c.retain.new.self.items (λ p. spot p.at p.me p.seen.items) c.args.slot c.args.self.now c.self.view_is
    (filter_same _ _ _ (λ x b f' k. search rules) _ _ c.retain.ensures.filtered)
