-- Each number that was come to is in use.
use Rattle.std.proofs.Common.{◌≡◌, [], not, get_or}
use Rattle.std.specs.Prelude.{filter}
use Rattle.phase_modes.specs.Lists.{is_empty}
use Rattle.finish_core.specs.Finish.{fresh}
use Rattle.world_model.specs.Report.{below}
use Rattle.world_core.proofs.tables.unused.first_unopened.Given as goal

abbrev pub invariant-loop-number : goal.invariant-loop-number
invariant-loop-number l = filter (λ n. not (not (is_empty (get_or l.finishes n (fresh 0)).past))) (below l.number) ≡ []
