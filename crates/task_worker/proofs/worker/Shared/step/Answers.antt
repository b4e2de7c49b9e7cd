use Rattle.std.proofs.Common.{None, subst, sym}
use Rattle.tasks_in_flight.specs.inner.Ready.{IsDue}
use Rattle.tasks_in_flight.specs.inner.GoingOn.{HasActed}
use Rattle.task_worker.specs.inner.Driven.{Replies}
use Rattle.task_worker.proofs.worker.Shared.step.Goals as goal

pub step-requires : goal.step-requires
step-requires g c = subst (λ t. IsDue None t.standing) (sym c.deref_mut.ensures.value) c.requires

pub returns-clause-acted : goal.returns-clause-acted
returns-clause-acted g c =
    subst (λ t. HasActed (Replies t.fronts) t.standing c.step.new.task.standing) c.deref_mut.ensures.value c.in_ok-item.ensures.acts
