use Rattle.std.proofs.Common.{◌≡◌, Bool, refl, ap, subst, ◌∙◌}
use Rattle.std.proofs.Math.Logic.{∥∥₁_map}
use Rattle.tasks_in_flight.specs.Heard.{opens}
use Rattle.finish_core.specs.declared.event.FinishEvent.TheVariants.{Opened}
use Rattle.world_model.specs.declared.event.WorldEvent.TheVariants.{Finish}
use Rattle.task_standing.specs.Known.{Known}
use Rattle.task_standing.specs.Noted.{noted}
use Rattle.tasks_in_flight.specs.inner.GoingOn.{HasActed, any_step, given_up, tried_by}
use Rattle.tasks_in_flight.proofs.GoingOn.{acts_no_more, not_tried, if_ok}
use Rattle.live_rt.proofs.About.{asks_kept}
use Rattle.live_rt.proofs.acts.TeamActsTaskWorker.open.Goals as goal

pub opened-requires : goal.opened-requires
opened-requires g c =
    let old = c.args.task.now in
    let first = c.reserve_opening in
    let new = c.may_try.new.task in record {
      asked = ∥∥₁_map c.requires (λ f p. asks_kept g.B.Body.shows old.body new.body opens old.places new.places old.standing new.standing
          (c.may_try.ensures.body ∙ first.ensures.body) (c.may_try.ensures.places ∙ first.ensures.places)
          (c.may_try.ensures.standing ∙ (ap (λ (b : Bool). tried_by b first.new.self.standing) c.if-not-may_try.false ∙ first.ensures.standing)) (f p).asks);
    }

pub returns-then-is_err-clause-acts : goal.returns-then-is_err-clause-acts
returns-then-is_err-clause-acts g c =
    acts_no_more any_step c.args.task.now.standing c.give_up.new.self.standing (c.give_up.ensures.given_up ∙ ap given_up c.reserve_opening.ensures.standing)

pub returns-then-not-may_try-clause-acts : goal.returns-then-not-may_try-clause-acts
returns-then-not-may_try-clause-acts g c =
    let new = c.may_try.new.task.standing in
    subst (λ (k : Known). HasActed any_step k new) c.reserve_opening.ensures.standing
    (not_tried any_step c.may_try.result c.reserve_opening.new.self.standing new c.if-not-may_try.true c.may_try.ensures.standing)

pub returns-in-Ok-clause-acts : goal.returns-in-Ok-clause-acts
returns-in-Ok-clause-acts g c =
    let old = c.args.task.now.standing in
    let e = Finish c.in-Ok.finish (Opened old.number) in
    let mid = c.may_try.new.task.standing in
    let new = c.opened.new.self.standing in
    let same : mid ≡ old =
    c.may_try.ensures.standing
    ∙ (ap (λ (b : Bool). tried_by b c.reserve_opening.new.self.standing) c.if-not-may_try.false ∙ c.reserve_opening.ensures.standing) in
    if_ok (new ≡ noted e mid) (HasActed any_step old new) (λ is. (e, refl, tt, is ∙ ap (λ (k : Known). noted e k) same))
    c.opened.result c.opened.ensures.opened

pub returns-in-Err-clause-acts : goal.returns-in-Err-clause-acts
returns-in-Err-clause-acts g c =
    let old = c.args.task.now.standing in
    let same : c.may_try.new.task.standing ≡ old =
    c.may_try.ensures.standing
    ∙ (ap (λ (b : Bool). tried_by b c.reserve_opening.new.self.standing) c.if-not-may_try.false ∙ c.reserve_opening.ensures.standing) in
    acts_no_more any_step old c.give_up-in-Err.new.self.standing (c.give_up-in-Err.ensures.given_up ∙ ap given_up same)
