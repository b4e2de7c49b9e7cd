use Rattle.std.proofs.Common.{sym, subst}
use Rattle.task_queue.specs.Accounts.{AreTogether}
use Rattle.task_queue.proofs.Ordering.{together_turned}
use Rattle.run_tests.proofs.runs.queues.turned.Goals as goal

pub returns-clause-together : goal.returns-clause-together
returns-clause-together g c =
    subst (λ l. AreTogether l) (sym c.reverse.ensures.items) (together_turned c.args.seats.items c.requires)
