-- What was come to and is enclosed is listed, and there is room for the rest.
use Rattle.std.proofs.Common.{◌≡◌, ◌≤◌, length, take}
use Rattle.std.specs.Prelude.{vec_capacity}
use Rattle.world_records.specs.inner.Begins.{enclosed}
use Rattle.world_records.proofs.task.begins.list_enclosed.Given as goal

abbrev pub invariant-loop-i : goal.invariant-loop-i
invariant-loop-i l = record {
  listed : l.left.items ≡ enclosed l.enclosing l.finish (take l.i l.own);
  few : length l.left.items ≤ l.i;
  room : 16 ≤ vec_capacity l.left;
}
