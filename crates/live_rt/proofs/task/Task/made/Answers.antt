use Rattle.std.proofs.Common.{List, Some, ap, sym, subst, ◌∙◌}
use Rattle.std.proofs.Math.Logic.{∥∥₁_map}
use Rattle.std.specs.Prelude.{is_some}
use Rattle.job_script.specs.declared.act.Answer.TheVariants.{Made}
use Rattle.task_standing.specs.Known.{Known}
use Rattle.live_rt.specs.inner.Places.{Spot, spot}
use Rattle.live_rt.specs.inner.Says.{IsAbout}
use Rattle.live_rt.proofs.Seen.{put_there}
use Rattle.live_rt.proofs.About.{about_made, about_fewer}
use Rattle.live_rt.proofs.task.Task.made.Goals as goal

-- where there was no memory nothing has changed
pub invariant_of-self : goal.invariant_of-self
invariant_of-self g c =
    let old = c.args.self.now in record {
      end = old.end;
      about = subst (λ (ps : List Spot). ∥ (g.J.Supposing.supposed → IsAbout g.B.Body.shows old.body old.answer ps old.standing) ∥₁) (sym c.in_err-add.ensures.refused) old.about;
    }

pub invariant_of-self-2 : goal.invariant_of-self-2
invariant_of-self-2 g c =
    let old = c.args.self.now in
    let p = spot c.args.place.at c.args.place.me c.args.place.seen.items in
    let free = ap (λ o. is_some o) (sym c.held.ensures) ∙ (sym c.is_some.ensures ∙ c.if-is_some.false) in
    let asked = c.requires.asked in record {
      end = old.end;
      about = subst (λ (k : Known). ∥ (g.J.Supposing.supposed → IsAbout g.B.Body.shows old.body (Some (Made c.args.place.at.slot)) c.add.new.self k) ∥₁) (sym c.in_default.ensures.made)
          (∥∥₁_map asked.2 (λ f q. about_made g.B.Body.shows old.body old.places c.add.new.self old.standing p c.args.mode asked.0
          (put_there p old.places c.add.new.self c.in_ok-add.ensures.here c.in_ok-add.ensures.others)
          (c.is_legal.ensures.legal c.args.place.at.number) asked.1 free (f q)));
    }

-- where it can hold no more the place is taken away again
pub invariant_of-self-in-Err : goal.invariant_of-self-in-Err
invariant_of-self-in-Err g c =
    let old = c.args.self.now in record {
      end = old.end;
      about = subst (λ (k : Known). ∥ (g.J.Supposing.supposed → IsAbout g.B.Body.shows old.body old.answer c.remove.new.self k) ∥₁) (sym c.in-Err.ensures.stays)
          (∥∥₁_map old.about (λ f q. about_fewer g.B.Body.shows old.body old.answer old.places c.remove.new.self old.standing c.args.place.at.slot
          c.remove.ensures.gone (λ m other. c.remove.ensures.others m other ∙ c.in_ok-add.ensures.others m other) (f q)));
    }
