use Rattle.std.proofs.Common.{refl, sym, ap, map, Some, ◌∙◌}
use Rattle.std.proofs.lemmas.Bool.{true≢false}
use Rattle.job_script.specs.declared.act.Answer.TheVariants.{Started}
use Rattle.task_standing.specs.Standing.{fresh}
use Rattle.tasks_in_flight.specs.inner.Ready.{seen_by}
use Rattle.tasks_in_flight.proofs.Saying.{ready_at_first, ready_at, ready_kept}
use Rattle.tasks_in_flight.proofs.task.Task.new.Goals as goal

-- it asked for nothing yet
pub invariant_of-task-2-clause-ready : goal.invariant_of-task-2-clause-ready
invariant_of-task-2-clause-ready g c =
    let fronts = c.fronts.inside.fronts.items in
    let k = fresh c.args.number c.args.home in
    let own = c.in_ok-log.log in
    ready_at g.B.Body.shows c.args.body own.task (Some Started) fronts k c.in_ok-new.field-0 own.log c.in_ok-new.ensures.fresh
    (ready_kept g.B.Body.shows c.args.body c.args.number own.task k.plan (Some Started) fronts k own.log own.log c.in_ok-log.ensures.task refl
    (ready_at_first g.B.Body.shows c.args.body c.args.number (seen_by fronts k own.log)
    (ap (λ l. map (λ e. e.1) l.entries) c.in_ok-log.ensures.blank)
    (rw (← c.fronts.view_is) at c.requires.says)))

pub invariant_of-task-2-clause-end : goal.invariant_of-task-2-clause-end
invariant_of-task-2-clause-end g c = λ ended. absurd (true≢false (sym ended ∙ c.in_ok-log.ensures.end))
