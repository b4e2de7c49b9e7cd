use Rattle.std.proofs.Common.{sym, subst}
use Rattle.std.proofs.Math.Logic.{∥∥₁_map}
use Rattle.task_standing.specs.Known.{Known}
use Rattle.live_rt.specs.inner.Places.{spot}
use Rattle.live_rt.specs.inner.Says.{IsAbout}
use Rattle.live_rt.proofs.Seen.{IsPut, gone_on}
use Rattle.live_rt.proofs.About.{about_signalled}
use Rattle.live_rt.proofs.task.Task.signalled.Goals as goal

pub invariant_of-self : goal.invariant_of-self
invariant_of-self g c =
    let old = c.args.self.now in
    let p = spot c.args.place.at c.args.place.me c.args.place.seen.items in
    let put : IsPut p old.places c.set.new.self = record { here = c.set.ensures.here; others = c.set.ensures.others } in
    let legal = c.is_legal.ensures.legal c.args.place.at.number in
    let own = c.requires.own in record {
      end = old.end;
      about = subst (λ (k : Known). ∥ (g.J.Supposing.supposed → IsAbout g.B.Body.shows old.body old.answer c.set.new.self k) ∥₁) (sym c.note_signal.ensures)
          (∥∥₁_map old.about (λ f q. about_signalled g.B.Body.shows old.body old.answer old.places c.set.new.self old.standing p own.0 c.args.proposed put
          c.requires.further legal own.1 own.2 c.requires.due (f q)));
    }

pub returns-clause-goes : goal.returns-clause-goes
returns-clause-goes g c =
    let old = c.args.self.now in
    let p = spot c.args.place.at c.args.place.me c.args.place.seen.items in
    gone_on p old.places c.set.new.self (record { here = c.set.ensures.here; others = c.set.ensures.others }) c.requires.further
