use Rattle.std.proofs.Common.{sym, subst}
use Rattle.std.proofs.Math.Logic.{∥∥₁_map}
use Rattle.task_standing.specs.Known.{Known}
use Rattle.live_rt.specs.inner.Says.{IsAbout}
use Rattle.live_rt.proofs.About.{about_at_end}
use Rattle.live_rt.proofs.task.Task.give_up.Goals as goal

pub invariant_of-self : goal.invariant_of-self
invariant_of-self g c =
    let old = c.args.self.now in record {
      end = old.end;
      about = subst (λ (k : Known). ∥ (g.J.Supposing.supposed → IsAbout g.B.Body.shows old.body old.answer old.places k) ∥₁) (sym c.give_up.ensures)
          (∥∥₁_map old.about (λ f p. about_at_end g.B.Body.shows old.body old.answer old.places old.standing (f p)));
    }
