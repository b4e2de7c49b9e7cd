use Rattle.std.proofs.Common.{Option, sym, subst, ap}
use Rattle.std.proofs.Math.Logic.{∥∥₁_map₂}
use Rattle.job_script.specs.declared.act.Answer.{Answer}
use Rattle.task_standing.specs.Known.{Known}
use Rattle.live_rt.specs.inner.Says.{IsAbout}
use Rattle.live_rt.proofs.About.{about_parted}
use Rattle.live_rt.proofs.task.Task.part.Goals as goal

pub invariant_of-self : goal.invariant_of-self
invariant_of-self g c =
    let old = c.args.self.now in record {
      end = old.end;
      about = ∥∥₁_map₂ c.requires.newborn old.about (λ is f p.
          subst (λ (a : Option Answer). IsAbout g.B.Body.shows old.body a c.remove.new.self c.leave.new.self) (sym is)
          (about_parted g.B.Body.shows old.body old.places c.remove.new.self old.standing c.leave.new.self c.args.phaser
          c.remove.ensures.gone c.remove.ensures.others (ap (λ (k : Known). k.number) c.leave.ensures) (ap (λ (k : Known). k.plan) c.leave.ensures)
          (subst (λ (a : Option Answer). IsAbout g.B.Body.shows old.body a old.places old.standing) is (f p))));
    }
