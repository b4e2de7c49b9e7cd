use Rattle.std.proofs.Common.{◌≡◌, arith, sym, ◌∙◌}
use Rattle.tasks_in_flight.specs.inner.Ready.{seen_by, seen_at_end}
use Rattle.tasks_in_flight.proofs.Saying.{has_said, told_at_end, sees_end}
use Rattle.task_worker.proofs.worker.Shared.close.Goals as goal

pub invariant_of-root : goal.invariant_of-root
invariant_of-root g c =
    let root = c.into_inner-body.result in
    let now = seen_by root.fronts root.standing root.log.log in
    let is : root.log.task ≡ 0 = omega (arith, c.task.ensures, c.if-task-gt0.false) in
    record {
      root = is;
      says = has_said g.B.Body.shows root.body root.log.task 0 root.standing.plan root.answer now (seen_at_end 0 root.fronts root.log.log) is
          (sees_end root.fronts root.standing root.log.log 0 (sym (root.own ∙ is))) root.ready;
    }

pub invariant_of-left-clause-told : goal.invariant_of-left-clause-told
invariant_of-left-clause-told g c = λ ended.
    let root = c.into_inner-body.result in
    let now = seen_by root.fronts root.standing root.log.log in
    told_at_end g.B.Body.shows g.K.Supposing.told root.body root.log.task now (seen_at_end root.log.task root.fronts root.log.log)
    (sees_end root.fronts root.standing root.log.log root.log.task (sym root.own)) c.args.self.now.tells (root.end ended)
