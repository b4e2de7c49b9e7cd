use Rattle.tasks_in_flight.specs.inner.GoingOn.{any_step}
use Rattle.tasks_in_flight.proofs.GoingOn.{acts_no_more}
use Rattle.live_rt.proofs.acts.TeamActsTaskWorker.refuse_step.Goals as goal

pub returns-clause-acts : goal.returns-clause-acts
returns-clause-acts g c = acts_no_more any_step c.args.task.now.standing c.give_up.new.self.standing c.give_up.ensures.given_up
