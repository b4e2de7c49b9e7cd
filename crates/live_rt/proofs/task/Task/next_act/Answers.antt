use Rattle.std.proofs.Common.{Option, subst, sym, ◌∙◌}
use Rattle.std.proofs.Math.Logic.{∥∥₁_map}
use Rattle.job_script.specs.declared.act.Answer.{Answer}
use Rattle.tasks_in_flight.specs.Heard.{asked_by}
use Rattle.live_rt.specs.inner.Says.{IsAbout}
use Rattle.live_rt.proofs.About.{about_asking, has_stepped}
use Rattle.live_rt.proofs.task.Task.next_act.Goals as goal

pub returns-clause-stepped : goal.returns-clause-stepped
returns-clause-stepped g c =
    let old = c.args.self.now in
    ∥∥₁_map (subst (λ (a : Option Answer). ∥ (g.J.Supposing.supposed → IsAbout g.B.Body.shows old.body a old.places old.standing) ∥₁) c.in-Some.is old.about)
    (λ f p. has_stepped g.B.Body.shows old.body c.step.new.self c.step.result c.in-Some.answer old.places old.standing c.requires.due
    c.step.ensures.shows c.step.ensures.child (f p))

pub invariant_of-self : goal.invariant_of-self
invariant_of-self g c =
    let old = c.args.self.now in record {
      end = λ is. absurd (cc (sym c.if-self.false ∙ is));
      about = ∥∥₁_map (subst (λ (a : Option Answer). ∥ (g.J.Supposing.supposed → IsAbout g.B.Body.shows old.body a old.places old.standing) ∥₁) c.in-Some.is old.about)
          (λ f p. about_asking g.B.Body.shows c.step.new.self (asked_by c.step.result) old.places old.standing
          (has_stepped g.B.Body.shows old.body c.step.new.self c.step.result c.in-Some.answer old.places old.standing c.requires.due
          c.step.ensures.shows c.step.ensures.child (f p)).asks);
    }
