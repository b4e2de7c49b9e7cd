use Rattle.std.proofs.Common.{None, ◌==◌, filter, not, ap}
use Rattle.tasks_in_flight.specs.inner.Ready.{seen_by}
use Rattle.tasks_in_flight.proofs.OnTheWay.{pending_left, sees_itself}
use Rattle.tasks_in_flight.proofs.Saying.{ready_moves, ready_at, says_known}
use Rattle.task_standing.specs.Known.{Known}
use Rattle.tasks_in_flight.specs.Heard.{ends}
use Rattle.tasks_in_flight.proofs.task.Task.left.Goals as goal

pub invariant_of-self-clause-ready : goal.invariant_of-self-clause-ready
invariant_of-self-clause-ready g c =
    let old = c.args.self.now in
    let k = old.standing in
    let n = c.args.phaser in
    let k' = record k { holding = filter (λ h. not (h.phaser == n)) k.holding } in
    let now = seen_by old.fronts k old.log.log in
    ready_at g.B.Body.shows old.body old.log.task old.answer old.fronts k' c.leave.new.self old.log.log c.leave.ensures
    (ready_moves g.B.Body.shows old.body old.log.task k.plan k.plan old.answer now (seen_by old.fronts k' old.log.log) (sees_itself now)
    (λ asked seen goes is. pending_left old.log.task None seen k now.own now.stories now.log n k'.holding asked old.answer c.requires.due is)
    old.ready)

pub invariant_of-self-clause-end : goal.invariant_of-self-clause-end
invariant_of-self-clause-end g c = λ ended.
    let old = c.args.self.now in
    says_known g.B.Body.shows old.body old.log.task ends old.fronts old.standing c.leave.new.self old.log.log
    (ap (λ (k : Known). k.number) c.leave.ensures) (old.end ended)
