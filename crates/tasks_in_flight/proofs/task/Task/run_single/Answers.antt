use Rattle.tasks_in_flight.specs.Heard.{ends}
use Rattle.tasks_in_flight.specs.inner.Ready.{seen_by}
use Rattle.tasks_in_flight.proofs.Saying.{ready_single, says_single}
use Rattle.tasks_in_flight.proofs.task.Task.run_single.Goals as goal

pub invariant_of-self-clause-ready : goal.invariant_of-self-clause-ready
invariant_of-self-clause-ready g c =
    let old = c.args.self.now in
    ready_single g.B.Body.shows old.body c.single.new.self old.log.task old.standing.plan old.answer (seen_by old.fronts old.standing old.log.log) c.single.ensures.shows old.ready

pub invariant_of-self-clause-end : goal.invariant_of-self-clause-end
invariant_of-self-clause-end g c = λ ended.
    let old = c.args.self.now in
    says_single g.B.Body.shows old.body c.single.new.self old.log.task ends (seen_by old.fronts old.standing old.log.log) c.single.ensures.shows (old.end ended)
