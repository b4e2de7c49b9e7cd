use Rattle.std.proofs.Common.{Bool, sym, ap, subst, ◌∙◌}
use Rattle.tasks_in_flight.specs.Heard.{look}
use Rattle.tasks_in_flight.specs.inner.Ready.{seen_by}
use Rattle.tasks_in_flight.specs.inner.GoingOn.{tried_by}
use Rattle.task_worker.specs.inner.Driven.{Replies}
use Rattle.tasks_in_flight.proofs.GoingOn.{not_tried, gave_up}
use Rattle.task_worker.proofs.Driven.{acts_since}
use Rattle.task_worker.proofs.acts.TeamActsTaskBusy.look.Goals as goal

pub look_on-requires : goal.look_on-requires
look_on-requires g c = record {
  says = subst (λ (t : _). ∥ (g.K.Supposing.supposed → g.B.Body.shows t.body t.log.task (look c.args.phaser c.args.accumulator) (seen_by t.fronts t.standing t.log.log)) ∥₁)
      (sym (c.in_ok-may_try.ensures.same c.if-not-branch.false)) c.requires.0;
}

pub returns-then-not-branch-clause-acts : goal.returns-then-not-branch-clause-acts
returns-then-not-branch-clause-acts g c =
    let task = c.args.task.now in
    not_tried (Replies task.fronts) c.in_ok-may_try.field-0 task.standing c.may_try.new.task.standing c.if-not-branch.true c.in_ok-may_try.ensures.standing

pub returns-in-Ok-clause-acts : goal.returns-in-Ok-clause-acts
returns-in-Ok-clause-acts g c =
    let old = c.args.task.now in
    let mid = c.may_try.new.task in
    acts_since old.fronts mid.fronts mid.standing old.standing c.look_on.new.task.standing (ap (λ t. t.fronts) (c.in_ok-may_try.ensures.same c.if-not-branch.false))
    (c.in_ok-may_try.ensures.standing ∙ ap (λ (b : Bool). tried_by b old.standing) c.if-not-branch.false) c.in-Ok.ensures.acted

pub returns-in-Err-clause-acts : goal.returns-in-Err-clause-acts
returns-in-Err-clause-acts g c =
    let old = c.args.task.now in
    gave_up (Replies old.fronts) c.look_on.new.task.standing old.standing c.refuse.new.task.standing
    (c.in-Err.ensures.refused ∙ (c.in_ok-may_try.ensures.standing ∙ ap (λ (b : Bool). tried_by b old.standing) c.if-not-branch.false))
    c.refuse.result c.refuse.ensures
