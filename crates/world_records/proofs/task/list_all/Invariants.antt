-- What was come to is listed, and there is room for the rest.
use Rattle.std.proofs.Common.{◌≡◌, ◌≤◌, take}
use Rattle.std.specs.Prelude.{vec_capacity}
use Rattle.world_records.proofs.task.list_all.Given as goal

abbrev pub invariant-loop-i : goal.invariant-loop-i
invariant-loop-i l = record { listed : l.left.items ≡ take l.i l.own; room : 16 ≤ vec_capacity l.left }
