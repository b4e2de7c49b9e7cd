use Rattle.std.proofs.Common.{sym, subst}
use Rattle.tasks_in_flight.specs.inner.Ready.{HasAskedFor, seen_by}
use Rattle.task_worker.proofs.worker.Shared.begin.Goals as goal

pub begin-requires : goal.begin-requires
begin-requires g c = record {
  asked = subst (λ (t : _). ∥ (g.K.Supposing.supposed → HasAskedFor g.B.Body.shows t.body t.log.task c.args.begun (seen_by t.fronts t.standing t.log.log)) ∥₁)
      (sym (c.in_ok-may_try.ensures.same c.if-not-branch.false)) c.requires;
}
