use Rattle.std.proofs.Common.{Some, sym, subst}
use Rattle.std.proofs.Math.Logic.{∥∥₁_map}
use Rattle.job_script.specs.declared.act.Answer.TheVariants.{Done}
use Rattle.task_standing.specs.Known.{Known}
use Rattle.live_rt.specs.inner.Says.{IsAbout}
use Rattle.live_rt.proofs.About.{about_opened}
use Rattle.live_rt.proofs.task.Task.opened.Goals as goal

-- where there was no memory nothing has changed
pub invariant_of-self : goal.invariant_of-self
invariant_of-self g c =
    let old = c.args.self.now in record {
      end = old.end;
      about = subst (λ (k : Known). ∥ (g.J.Supposing.supposed → IsAbout g.B.Body.shows old.body old.answer old.places k) ∥₁) (sym c.in_err-note_opening.ensures.stays) old.about;
    }

pub invariant_of-self-2 : goal.invariant_of-self-2
invariant_of-self-2 g c =
    let old = c.args.self.now in record {
      end = old.end;
      about = subst (λ (k : Known). ∥ (g.J.Supposing.supposed → IsAbout g.B.Body.shows old.body (Some Done) old.places k) ∥₁) (sym c.in_ok-note_opening.ensures.opened)
          (∥∥₁_map c.requires.asked (λ f p. about_opened g.B.Body.shows old.body old.places old.standing c.args.finish (f p)));
    }
