use Rattle.std.proofs.Common.{Ok}
use Rattle.std.proofs.Math.Logic.{∥∥₁_map}
use Rattle.tasks_in_flight.specs.Heard.{asked_by}
use Rattle.tasks_in_flight.specs.inner.GoingOn.{any_step}
use Rattle.tasks_in_flight.proofs.GoingOn.{begins}
use Rattle.live_rt.proofs.About.{asks_for}
use Rattle.live_rt.proofs.acts.TeamActsTaskWorker.begin.Goals as goal

pub begin-begun-requires : goal.begin-begun-requires
begin-begun-requires g c =
    let task = c.args.task.now in
    ∥∥₁_map c.requires (λ f p. asks_for g.B.Body.shows task.body task.places task.standing c.in-Some.begun (asked_by (Ok c.args.act.now))
    (c.in-Some.ensures task.standing.holding) (f p).asks)

pub returns-clause-acts : goal.returns-clause-acts
returns-clause-acts g c =
    begins any_step c.in-Some.begun c.begin-begun.result c.args.task.now.standing c.begin-begun.new.task.standing c.begin-begun.ensures.begun
