use Rattle.std.proofs.Common.{Ok}
use Rattle.std.proofs.Math.Logic.{∥∥₁_map}
use Rattle.tasks_in_flight.specs.Heard.{asked_by}
use Rattle.tasks_in_flight.proofs.GoingOn.{begins}
use Rattle.task_worker.specs.inner.Driven.{Replies}
use Rattle.task_worker.proofs.acts.TeamActsTaskBusy.begin.Goals as goal

pub begin-requires : goal.begin-requires
begin-requires g c =
    ∥∥₁_map c.requires.0 (λ f q. (asked_by (Ok c.args.act.now), c.in-Some.ensures c.args.task.now.standing.holding, f q))

pub returns-clause-acts : goal.returns-clause-acts
returns-clause-acts g c =
    let task = c.args.task.now in
    begins (Replies task.fronts) c.in-Some.begun c.in_ok-_begun._begun task.standing c.begin.new.task.standing c.in_ok-_begun.ensures.begun
