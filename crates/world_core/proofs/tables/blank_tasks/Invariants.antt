-- As many as were counted stand there, and there is room for the rest.
use Rattle.std.proofs.Common.{◌≡◌, ◌≤◌, replicate}
use Rattle.std.specs.Prelude.{vec_capacity}
use Rattle.world_records.specs.Kept.{blank_task}
use Rattle.world_core.proofs.tables.blank_tasks.Given as goal

abbrev pub invariant-loop : goal.invariant-loop
invariant-loop l = record { made : l.tasks.items ≡ replicate l.counter (blank_task); room : l.fn.limits.tasks ≤ vec_capacity l.tasks }
