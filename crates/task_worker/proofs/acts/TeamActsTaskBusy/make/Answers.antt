use Rattle.std.proofs.Common.{sym, subst}
use Rattle.tasks_in_flight.specs.Heard.{make}
use Rattle.tasks_in_flight.specs.inner.Ready.{seen_by}
use Rattle.tasks_in_flight.proofs.GoingOn.{not_tried}
use Rattle.task_worker.specs.inner.Driven.{Replies}
use Rattle.task_worker.proofs.acts.TeamActsTaskBusy.make.Goals as goal

pub make_on-requires : goal.make_on-requires
make_on-requires g c = record {
  says = subst (λ (t : _). ∥ (g.K.Supposing.supposed → g.B.Body.shows t.body t.log.task (make c.args.mode (record { ops = c.args.ops; bound = c.args.bound })) (seen_by t.fronts t.standing t.log.log)) ∥₁)
      (sym (c.in_ok-may_try.ensures.same c.if-not-branch.false)) c.requires.0;
}

pub returns-then-not-branch-clause-acts : goal.returns-then-not-branch-clause-acts
returns-then-not-branch-clause-acts g c =
    let task = c.args.task.now in
    not_tried (Replies task.fronts) c.in_ok-may_try.field-0 task.standing c.may_try.new.task.standing c.if-not-branch.true c.in_ok-may_try.ensures.standing
