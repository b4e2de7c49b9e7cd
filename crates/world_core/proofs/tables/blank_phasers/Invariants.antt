-- As many as were counted stand there, and there is room for the rest.
use Rattle.std.proofs.Common.{◌≡◌, ◌≤◌, replicate}
use Rattle.std.specs.Prelude.{vec_capacity}
use Rattle.world_records.specs.Kept.{blank_story}
use Rattle.world_core.proofs.tables.blank_phasers.Given as goal

abbrev pub invariant-loop : goal.invariant-loop
invariant-loop l = record { made : l.phasers.items ≡ replicate l.counter (blank_story l.limits); room : l.limits.phasers ≤ vec_capacity l.phasers }
