use Rattle.std.proofs.Common.{◌≡◌, [], All, vec_len}
use Rattle.live_tables.proofs.front.new_slot_logs.Given as goal

abbrev pub invariant-loop-number : goal.invariant-loop-number
invariant-loop-number l = record {
  number : vec_len l.logs ≡ l._number;
  empty : All (λ w. w.items ≡ []) l.logs.items;
}
