use Rattle.std.proofs.Common.{◌≡◌, ℕ, ◌+◌, ◌*◌, All, IfSome, vec_len, slice_get}
use Rattle.share_book.specs.Accounts.{nothing}
use Rattle.share_book.proofs.opening.phaser_books.Given as goal

abbrev pub invariant-loop-number : goal.invariant-loop-number
invariant-loop-number g l = record {
  events : (l.events.parts + l.number ≡ l.phasers) × (l.events.amount ≡ 0);
  up : (l.up.parts + l.number ≡ l.phasers) × (l.up.amount ≡ 0);
  down : (l.down.parts + l.number ≡ l.phasers) × (l.down.amount ≡ 0);
  room : (l.room.parts + l.number ≡ l.phasers) × (l.room.amount + 65536 * l.number ≡ 65536 * l.phasers);
  length : vec_len l.books ≡ l.number;
  fresh : All (λ b. (b.totals ≡ nothing) × (b.room ≡ 65536)) l.books.items;
  numbers : (i : ℕ) → IfSome (slice_get l.books.items i) (λ b. b.number ≡ i);
}
