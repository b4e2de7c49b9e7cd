use Rattle.std.proofs.Common.{Some, sym, subst}
use Rattle.std.proofs.Math.Logic.{∥∥₁_map}
use Rattle.job_script.specs.declared.act.Answer.TheVariants.{Done}
use Rattle.task_standing.specs.Known.{Known}
use Rattle.live_rt.specs.inner.Places.{spot}
use Rattle.live_rt.specs.inner.Says.{IsAbout}
use Rattle.live_rt.proofs.Seen.{IsPut}
use Rattle.live_rt.proofs.About.{about_sent}
use Rattle.live_rt.proofs.task.Task.sent.Goals as goal

pub invariant_of-self : goal.invariant_of-self
invariant_of-self g c =
    let old = c.args.self.now in
    let p = spot c.args.place.at c.args.place.me c.args.place.seen.items in
    let put : IsPut p old.places c.set.new.self = record { here = c.set.ensures.here; others = c.set.ensures.others } in
    let legal = c.is_legal.ensures.legal c.args.place.at.number in
    let asked = c.requires.asked in record {
      end = old.end;
      about = subst (λ (k : Known). ∥ (g.J.Supposing.supposed → IsAbout g.B.Body.shows old.body (Some Done) c.set.new.self k) ∥₁) (sym c.note_act.ensures.acted)
          (∥∥₁_map asked.5 (λ f q. about_sent g.B.Body.shows old.body old.places c.set.new.self old.standing p asked.2 asked.0 asked.1 put
          c.requires.further legal asked.3 asked.4 (f q)));
    }
