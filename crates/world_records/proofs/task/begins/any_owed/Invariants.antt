-- Whether one of those that were come to passes the test.
use Rattle.std.proofs.Common.{◌≡◌, take}
use Rattle.std.specs.List.{list_any}
use Rattle.world_records.specs.Kept.{past_in}
use Rattle.world_records.specs.inner.Facts.{owes}
use Rattle.world_records.proofs.task.begins.any_owed.Given as goal

abbrev pub invariant-loop-i : goal.invariant-loop-i
invariant-loop-i l = l.any ≡ list_any (λ n. owes l.task (past_in l.phasers n)) (take l.i l.own)
