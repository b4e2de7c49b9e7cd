use Rattle.std.proofs.Common.{Some, sym, subst, refl, List, []}
use Rattle.std.proofs.Math.Logic.{∥∥₁_map}
use Rattle.job_script.specs.declared.act.Answer.TheVariants.{Started}
use Rattle.task_standing.specs.Known.{Known}
use Rattle.task_standing.specs.Standing.{fresh}
use Rattle.live_rt.specs.inner.Places.{Spot}
use Rattle.live_rt.specs.inner.Says.{IsAbout}
use Rattle.live_rt.proofs.About.{about_unborn}
use Rattle.live_rt.proofs.task.Task.new.Goals as goal

-- it asked for nothing yet
pub invariant_of-task : goal.invariant_of-task
invariant_of-task g c = record {
  end = λ is. absurd (cc is);
  about = subst (λ (k : Known). ∥ (g.J.Supposing.supposed → IsAbout g.B.Body.shows c.args.body (Some Started) c.in_ok-new-2.field-0 k) ∥₁) (sym c.in_ok-new.ensures.fresh)
      (subst (λ (ps : List Spot). ∥ (g.J.Supposing.supposed → IsAbout g.B.Body.shows c.args.body (Some Started) ps (fresh c.args.number c.args.home)) ∥₁) (sym c.in_ok-new-2.ensures.none)
      (∥∥₁_map c.requires.says (λ f p. about_unborn g.B.Body.shows c.args.body [] [] (fresh c.args.number c.args.home) (λ _. refl) (f p))));
}
