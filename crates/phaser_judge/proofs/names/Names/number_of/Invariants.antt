use Rattle.std.proofs.Common.{◌≡◌, nat_eq, drop}
use Rattle.std.specs.Map.{lookup}
use Rattle.phaser_judge.proofs.names.Names.number_of.Given as goal

abbrev pub invariant-loop-task : goal.invariant-loop-task
invariant-loop-task l = lookup (nat_eq l.name) l.task-items ≡ lookup (nat_eq l.name) (drop l.task-index l.task-items)
