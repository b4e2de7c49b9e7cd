-- Each number that was come to is in use.
use Rattle.std.proofs.Common.{◌≡◌, [], not, get_or}
use Rattle.std.specs.Prelude.{filter}
use Rattle.world_model.specs.Report.{below}
use Rattle.world_records.specs.Kept.{blank_task}
use Rattle.world_core.proofs.tables.unused.first_unnamed.Given as goal

abbrev pub invariant-loop-number : goal.invariant-loop-number
invariant-loop-number l = filter (λ n. not ((get_or l.tasks n blank_task).is_named)) (below l.number) ≡ []
