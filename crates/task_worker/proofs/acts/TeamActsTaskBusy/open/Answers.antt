use Rattle.std.proofs.Common.{◌≡◌, Bool, refl, sym, ap, subst, ◌∙◌}
use Rattle.tasks_in_flight.specs.Heard.{opens}
use Rattle.tasks_in_flight.specs.inner.Ready.{seen_by}
use Rattle.tasks_in_flight.proofs.Saying.{shows_kept}
use Rattle.finish_core.specs.declared.event.FinishEvent.TheVariants.{Opened}
use Rattle.world_model.specs.declared.event.WorldEvent.TheVariants.{Finish}
use Rattle.task_standing.specs.Known.{Known}
use Rattle.task_standing.specs.Noted.{noted}
use Rattle.tasks_in_flight.specs.inner.GoingOn.{HasActed, tried_by}
use Rattle.task_worker.specs.inner.Driven.{Replies}
use Rattle.tasks_in_flight.proofs.GoingOn.{if_ok, not_tried, gave_up}
use Rattle.task_worker.proofs.acts.TeamActsTaskBusy.open.Goals as goal

pub opened-requires : goal.opened-requires
opened-requires g c =
    let old = c.args.task.now in
    let mid = c.reserve_opening.new.self in
    let kept = c.reserve_opening.ensures in
    record {
      asked = subst (λ (t : _). ∥ (g.K.Supposing.supposed → g.B.Body.shows t.body t.log.task opens (seen_by t.fronts t.standing t.log.log)) ∥₁)
          (sym (c.in_ok-may_try.ensures.same c.if-not-branch.false))
          (shows_kept g.B.Body.shows old.body mid.body old.log.task mid.log.task opens old.fronts mid.fronts old.standing mid.standing old.log.log mid.log.log
          kept.body kept.task kept.fronts kept.standing (ap (λ d. d.log) kept.log) c.requires.0);
    }

pub returns-then-is_err-clause-acts : goal.returns-then-is_err-clause-acts
returns-then-is_err-clause-acts g c =
    let task = c.args.task.now in
    gave_up (Replies task.fronts) c.reserve_opening.new.self.standing task.standing c.fail.new.task.standing c.reserve_opening.ensures.standing c.fail.result c.fail.ensures

pub returns-then-not-branch-clause-acts : goal.returns-then-not-branch-clause-acts
returns-then-not-branch-clause-acts g c =
    let task = c.args.task.now in
    let seen = Replies task.fronts in
    let mid = c.reserve_opening.new.self.standing in
    let new = c.may_try.new.task.standing in
    subst (λ (k : Known). HasActed seen k new) c.reserve_opening.ensures.standing
    (not_tried seen c.in_ok-may_try.field-0 mid new c.if-not-branch.true c.in_ok-may_try.ensures.standing)

pub returns-clause-acts : goal.returns-clause-acts
returns-clause-acts g c =
    let k = c.args.task.now.standing in
    let seen = Replies c.args.task.now.fronts in
    let e = Finish c.finish-finish.result (Opened k.number) in
    let mid = c.may_try.new.task.standing in
    let new = c.opened.new.self.standing in
    let same =
    c.in_ok-may_try.ensures.standing
    ∙ (ap (λ (b : Bool). tried_by b c.reserve_opening.new.self.standing) c.if-not-branch.false ∙ c.reserve_opening.ensures.standing) in
    if_ok (new ≡ noted e mid) (HasActed seen k new) (λ is. (e, refl, tt, is ∙ ap (λ (x : Known). noted e x) same))
    c.opened.result c.opened.ensures.opened
