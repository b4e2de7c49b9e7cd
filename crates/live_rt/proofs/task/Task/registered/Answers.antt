use Rattle.std.proofs.Common.{sym, ◌∙◌}
use Rattle.std.proofs.Math.Logic.{∥∥₁_map}
use Rattle.live_rt.specs.inner.Places.{spot}
use Rattle.live_rt.proofs.Seen.{IsPut, gone_on, all_gone_on}
use Rattle.live_rt.proofs.About.{about_registered}
use Rattle.live_rt.proofs.task.Task.registered.Goals as goal

pub invariant_of-self : goal.invariant_of-self
invariant_of-self g c =
    let old = c.args.self.now in
    let p = spot c.args.place.at c.args.place.me c.args.place.seen.items in
    let put : IsPut p old.places c.set.new.self = record { here = c.set.ensures.here; others = c.set.ensures.others } in
    let legal = c.is_legal.ensures.legal c.args.place.at.number in
    record {
      end = old.end;
      about = ∥∥₁_map old.about (λ f q. about_registered g.B.Body.shows old.body old.answer old.places c.set.new.self old.standing p put
          c.requires.further legal c.requires.own (sym c.hears_of_each.ensures ∙ c.if-hears_of_each.true) (f q));
    }

pub returns-then-hears_of_each-clause-goes : goal.returns-then-hears_of_each-clause-goes
returns-then-hears_of_each-clause-goes g c =
    let old = c.args.self.now in
    let p = spot c.args.place.at c.args.place.me c.args.place.seen.items in
    gone_on p old.places c.set.new.self (record { here = c.set.ensures.here; others = c.set.ensures.others }) c.requires.further

pub returns-else-hears_of_each-clause-goes : goal.returns-else-hears_of_each-clause-goes
returns-else-hears_of_each-clause-goes g c = all_gone_on c.args.self.now.places
