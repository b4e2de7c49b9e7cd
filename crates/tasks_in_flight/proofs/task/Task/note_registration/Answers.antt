use Rattle.std.proofs.Common.{ap}
use Rattle.task_standing.specs.Standing.{registered_by}
use Rattle.tasks_in_flight.specs.inner.Ready.{seen_by}
use Rattle.tasks_in_flight.proofs.OnTheWay.{pending_registered, sees_itself}
use Rattle.tasks_in_flight.proofs.Saying.{ready_moves, ready_at, says_known}
use Rattle.task_standing.specs.Known.{Known}
use Rattle.tasks_in_flight.specs.Heard.{ends}
use Rattle.tasks_in_flight.proofs.task.Task.note_registration.Goals as goal

pub invariant_of-self-clause-ready : goal.invariant_of-self-clause-ready
invariant_of-self-clause-ready g c =
    let old = c.args.self.now in
    let k = old.standing in
    let k' = record k { plan = registered_by k.plan } in
    let now = seen_by old.fronts k old.log.log in
    ready_at g.B.Body.shows old.body old.log.task old.answer old.fronts k' c.note_registration.new.self old.log.log c.note_registration.ensures
    (ready_moves g.B.Body.shows old.body old.log.task k.plan k'.plan old.answer now (seen_by old.fronts k' old.log.log) (sees_itself now)
    (λ asked seen goes is. pending_registered old.log.task seen now k.plan asked old.answer is)
    old.ready)

pub invariant_of-self-clause-end : goal.invariant_of-self-clause-end
invariant_of-self-clause-end g c = λ ended.
    let old = c.args.self.now in
    says_known g.B.Body.shows old.body old.log.task ends old.fronts old.standing c.note_registration.new.self old.log.log
    (ap (λ (k : Known). k.number) c.note_registration.ensures) (old.end ended)
