-- As many as were counted stand there, and there is room for the rest.
use Rattle.std.proofs.Common.{◌≡◌, ◌≤◌, replicate}
use Rattle.std.specs.Prelude.{vec_capacity}
use Rattle.finish_core.specs.Finish.{fresh}
use Rattle.world_core.proofs.tables.fresh_finishes.Given as goal

abbrev pub invariant-loop : goal.invariant-loop
invariant-loop l = record { made : l.finishes.items ≡ replicate l.counter (fresh l.limits.tasks); room : l.limits.finishes ≤ vec_capacity l.finishes }
