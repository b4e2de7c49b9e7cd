use Rattle.std.proofs.Common.{refl}
use Rattle.tasks_in_flight.proofs.GoingOn.{gave_up}
use Rattle.task_worker.specs.inner.Driven.{Replies}
use Rattle.task_worker.proofs.acts.TeamActsTaskBusy.refuse_step.Goals as goal

pub returns-clause-acts : goal.returns-clause-acts
returns-clause-acts g c =
    let old = c.args.task.now in
    gave_up (Replies old.fronts) old.standing old.standing c.fail.new.task.standing refl c.fail.result c.fail.ensures
