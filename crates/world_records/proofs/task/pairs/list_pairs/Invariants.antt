-- The numbers that were come to are listed.
use Rattle.std.proofs.Common.{◌≡◌, map, take}
use Rattle.world_records.specs.Kept.{past_in}
use Rattle.world_records.specs.inner.Drawings.{mode_at}
use Rattle.world_records.proofs.task.pairs.list_pairs.Given as goal

abbrev pub invariant-loop-i : goal.invariant-loop-i
invariant-loop-i l = l.pairs ≡ map (λ n. record { phaser = n; mode = mode_at l.task (past_in l.phasers n) }) (take l.i l.own)
