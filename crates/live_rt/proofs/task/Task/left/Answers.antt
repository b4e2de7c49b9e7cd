use Rattle.std.proofs.Common.{sym, subst}
use Rattle.std.proofs.Math.Logic.{∥∥₁_map}
use Rattle.task_standing.specs.Known.{Known}
use Rattle.live_rt.specs.inner.Says.{IsAbout}
use Rattle.live_rt.proofs.Seen.{fewer_gone_on}
use Rattle.live_rt.proofs.About.{about_left}
use Rattle.live_rt.proofs.task.Task.left.Goals as goal

pub invariant_of-self : goal.invariant_of-self
invariant_of-self g c =
    let old = c.args.self.now in record {
      end = old.end;
      about = subst (λ (k : Known). ∥ (g.J.Supposing.supposed → IsAbout g.B.Body.shows old.body old.answer c.remove.new.self k) ∥₁) (sym c.leave.ensures)
          (∥∥₁_map old.about (λ f p. about_left g.B.Body.shows old.body old.answer old.places c.remove.new.self old.standing c.args.phaser
          c.remove.ensures.gone c.remove.ensures.others c.requires.due (f p)));
    }

pub returns-clause-goes : goal.returns-clause-goes
returns-clause-goes g c =
    fewer_gone_on c.args.phaser c.args.self.now.places c.remove.new.self c.remove.ensures.gone c.remove.ensures.others
