-- Each number that was come to is in use.
use Rattle.std.proofs.Common.{◌≡◌, [], not}
use Rattle.std.specs.Prelude.{filter}
use Rattle.phase_modes.specs.Lists.{is_empty}
use Rattle.world_model.specs.Report.{below}
use Rattle.world_records.specs.Kept.{past_in}
use Rattle.world_core.proofs.tables.unused.first_unmade.Given as goal

abbrev pub invariant-loop-number : goal.invariant-loop-number
invariant-loop-number l = filter (λ n. not (not (is_empty (past_in l.phasers n)))) (below l.number) ≡ []
