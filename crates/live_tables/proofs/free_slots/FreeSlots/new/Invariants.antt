use Rattle.std.proofs.Common.{◌≡◌, ◌+◌, ◌≤◌, vec_len, vec_capacity}
use Rattle.live_tables.proofs.free_slots.FreeSlots.new.Given as goal

abbrev pub invariant-loop-number : goal.invariant-loop-number
invariant-loop-number l = record {
  counted : vec_len l.numbers + l.number ≡ l.slots;
  most : l.used ≤ l.number;
  room : vec_capacity l.numbers ≡ vec_capacity l.initial.numbers;
}
