use Rattle.std.proofs.Common.{List, sym, subst}
use Rattle.live_rt.specs.inner.Places.{Spot}
use Rattle.live_rt.specs.inner.Says.{IsAbout}
use Rattle.live_rt.proofs.task.Task.place.Goals as goal

pub invariant_of-self : goal.invariant_of-self
invariant_of-self g c =
    let old = c.args.self.now in record {
      end = old.end;
      about = subst (λ (ps : List Spot). ∥ (g.J.Supposing.supposed → IsAbout g.B.Body.shows old.body old.answer ps old.standing) ∥₁) (sym c.get.ensures.same) old.about;
    }
