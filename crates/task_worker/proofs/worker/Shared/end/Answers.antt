use Rattle.std.proofs.Common.{sym}
use Rattle.tasks_in_flight.specs.inner.Ready.{seen_by, seen_at_end}
use Rattle.tasks_in_flight.proofs.Saying.{told_at_end, sees_end}
use Rattle.task_worker.proofs.worker.Shared.end.Goals as goal

pub invariant_of-left-clause-told : goal.invariant_of-left-clause-told
invariant_of-left-clause-told g c = λ ended.
    let task = c.into_inner-fronts.result in
    let now = seen_by task.fronts task.standing task.log.log in
    told_at_end g.B.Body.shows g.K.Supposing.told task.body task.log.task now (seen_at_end task.log.task task.fronts task.log.log)
    (sees_end task.fronts task.standing task.log.log task.log.task (sym task.own)) c.args.self.now.tells (task.end ended)
