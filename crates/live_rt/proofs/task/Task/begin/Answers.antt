use Rattle.std.proofs.Common.{Option, sym, subst, ap, ◌∙◌}
use Rattle.std.proofs.Math.Logic.{∥∥₁_map}
use Rattle.job_script.specs.declared.act.Answer.{Answer}
use Rattle.world_model.specs.declared.event.Begun.{Begun}
use Rattle.task_standing.specs.declared.plan.Plan.{Plan}
use Rattle.task_standing.specs.Known.{Known}
use Rattle.task_standing.specs.Noted.{plan_of}
use Rattle.task_standing.specs.Standing.{begun}
use Rattle.live_rt.specs.inner.Says.{AsksFor, IsAbout}
use Rattle.live_rt.proofs.About.{about_begun}
use Rattle.live_rt.proofs.AtTheEnd.{asked_for_end}
use Rattle.live_rt.proofs.task.Task.begin.Goals as goal

pub invariant_of-self : goal.invariant_of-self
invariant_of-self g c =
    let old = c.args.self.now in
    let k = old.standing in record {
      end = λ is. ∥∥₁_map c.requires.asked (λ f p. asked_for_end g.B.Body.shows old.body old.places k
          (subst (λ (b : Begun). AsksFor g.B.Body.shows old.body b old.places k) (c.is_end-self.ensures.0 is) (f p)));
      about = subst (λ (x : Known). ∥ (g.J.Supposing.supposed → IsAbout g.B.Body.shows old.body c.answer_to-self.result old.places x) ∥₁)
          (sym (c.begin.ensures ∙ ap (λ (p : Plan). begun p k) c.of.ensures))
          (subst (λ (a : Option Answer). ∥ (g.J.Supposing.supposed → IsAbout g.B.Body.shows old.body a old.places (begun (plan_of c.args.act.now) k)) ∥₁) (sym c.answer_to-self.ensures)
          (∥∥₁_map c.requires.asked (λ f p. about_begun g.B.Body.shows old.body old.places k c.args.act.now (f p))));
    }
