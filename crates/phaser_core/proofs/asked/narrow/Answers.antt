use Rattle.std.proofs.Common.{ap, ◌∙◌, arith}
use Rattle.phaser_core.proofs.Unknown.{unknown_from, tasks_fit}
use Rattle.phaser_core.proofs.asked.narrow.Goals as goal

pub returns-in-Err-clause-unknown : goal.returns-in-Err-clause-unknown
returns-in-Err-clause-unknown c =
    let large = c.in-Err.ensures in
    let tasks = ap (λ l. l.tasks) c.limits-tasks.ensures.limits ∙ ap (λ s. s.limits.tasks) c.history.ensures.history in
    unknown_from c.args.state.now.story c.args.task c.history.ensures.legal
    (omega (arith, tasks, tasks_fit c.limits-tasks.result c.limits-tasks.ensures.fit, large))
