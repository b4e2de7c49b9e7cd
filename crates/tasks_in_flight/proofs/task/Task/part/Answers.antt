use Rattle.std.proofs.Common.{ap}
use Rattle.task_standing.specs.Known.{Known}
use Rattle.tasks_in_flight.proofs.Saying.{ready_newborn, says_known}
use Rattle.tasks_in_flight.specs.Heard.{ends}
use Rattle.tasks_in_flight.proofs.task.Task.part.Goals as goal

pub invariant_of-self-clause-ready : goal.invariant_of-self-clause-ready
invariant_of-self-clause-ready g c =
    let old = c.args.self.now in
    ready_newborn g.B.Body.shows old.body old.log.task old.answer old.fronts old.standing c.leave.new.self old.log.log
    (ap (λ (k : Known). k.plan) c.leave.ensures) (ap (λ (k : Known). k.number) c.leave.ensures) c.requires.newborn old.ready

pub invariant_of-self-clause-end : goal.invariant_of-self-clause-end
invariant_of-self-clause-end g c = λ ended.
    let old = c.args.self.now in
    says_known g.B.Body.shows old.body old.log.task ends old.fronts old.standing c.leave.new.self old.log.log
    (ap (λ (k : Known). k.number) c.leave.ensures) (old.end ended)
