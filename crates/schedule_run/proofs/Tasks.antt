-- A run has a task.
use Rattle.std.proofs.Common.{◌≡◌, ◌≤◌, true}
use Rattle.std.proofs.lemmas.Bool.{leb-true, and_parts}
use Rattle.phase_modes.specs.declared.limits.Limits.{Limits}
use Rattle.phase_modes.specs.Limits.{limits_fit}

pub some_task : (l : Limits) → limits_fit l ≡ true → 1 ≤ l.tasks
some_task l h = leb-true 1 l.tasks (and_parts _ _ (and_parts _ _ h).1).0
