use Rattle.std.proofs.Common.{ap}
use Rattle.tasks_in_flight.proofs.Saying.{ready_at, says_known}
use Rattle.task_standing.specs.Known.{Known}
use Rattle.tasks_in_flight.specs.Heard.{ends}
use Rattle.tasks_in_flight.proofs.task.Task.reserve_opening.Goals as goal

pub invariant_of-self-clause-ready : goal.invariant_of-self-clause-ready
invariant_of-self-clause-ready g c =
    let old = c.args.self.now in
    ready_at g.B.Body.shows old.body old.log.task old.answer old.fronts old.standing c.reserve_opening.new.self old.log.log
    c.reserve_opening.ensures old.ready

pub invariant_of-self-clause-end : goal.invariant_of-self-clause-end
invariant_of-self-clause-end g c = λ ended.
    let old = c.args.self.now in
    says_known g.B.Body.shows old.body old.log.task ends old.fronts old.standing c.reserve_opening.new.self old.log.log
    (ap (λ (k : Known). k.number) c.reserve_opening.ensures) (old.end ended)
