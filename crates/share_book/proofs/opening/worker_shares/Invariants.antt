use Rattle.std.proofs.Common.{◌≡◌, ◌+◌, All, vec_len}
use Rattle.share_book.specs.Accounts.{nothing}
use Rattle.share_book.proofs.opening.worker_shares.Given as goal

abbrev pub invariant-loop-number : goal.invariant-loop-number
invariant-loop-number g l = record {
  events : (l.events.parts + l._number ≡ l.workers) × (l.events.amount ≡ 0);
  up : (l.up.parts + l._number ≡ l.workers) × (l.up.amount ≡ 0);
  down : (l.down.parts + l._number ≡ l.workers) × (l.down.amount ≡ 0);
  length : vec_len l.shares ≡ l._number;
  fresh : All (λ s. s ≡ nothing) l.shares.items;
}
