-- What was come to and is owed is listed, and there is room for the rest.
use Rattle.std.proofs.Common.{◌≡◌, ◌≤◌, length, take}
use Rattle.std.specs.Prelude.{filter, vec_capacity}
use Rattle.world_records.specs.Kept.{past_in}
use Rattle.world_records.specs.inner.Facts.{owes}
use Rattle.world_records.proofs.task.list_owed.Given as goal

abbrev pub invariant-loop-i : goal.invariant-loop-i
invariant-loop-i l = record {
  listed : l.left.items ≡ filter (λ n. owes l.task (past_in l.phasers n)) (take l.i l.own);
  few : length l.left.items ≤ l.i;
  room : 16 ≤ vec_capacity l.left;
}
