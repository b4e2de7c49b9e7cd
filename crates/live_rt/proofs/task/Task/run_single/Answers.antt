use Rattle.std.proofs.Math.Logic.{∥∥₁_map}
use Rattle.live_rt.proofs.About.{about_single}
use Rattle.live_rt.proofs.AtTheEnd.{said_once_more}
use Rattle.live_rt.proofs.task.Task.run_single.Goals as goal

pub invariant_of-self : goal.invariant_of-self
invariant_of-self g c =
    let old = c.args.self.now in record {
      end = λ is. ∥∥₁_map (old.end is) (λ f p. said_once_more g.B.Body.shows old.body c.single.new.self c.single.ensures.shows (f p));
      about = ∥∥₁_map old.about (λ f p. about_single g.B.Body.shows old.body c.single.new.self old.answer old.places old.standing c.single.ensures.shows (f p));
    }
