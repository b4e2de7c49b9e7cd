use Rattle.std.proofs.Common.{◌∷◌, ◌++◌, [], ap, ◌∙◌}
use Rattle.task_queue.proofs.steals.steal_one.Goals as goal

pub returns-in-Success-clause-taken : goal.returns-in-Success-clause-taken
returns-in-Success-clause-taken g c =
    ap (λ v. v.taken) c.in-Success.ensures.view ∙ ap (λ l. l ++ c.in-Success.item ∷ []) c.loop.invariant.taken
