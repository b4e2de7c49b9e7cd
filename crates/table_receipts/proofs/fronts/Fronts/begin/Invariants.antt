use Rattle.std.proofs.Common.{◌≡◌, ℕ, ◌<◌, length}
use Rattle.told_history.specs.Stories.{GoesOn}
use Rattle.table_receipts.specs.Seen.{story_at}
use Rattle.table_receipts.proofs.fronts.Fronts.begin.Given as goal

abbrev pub invariant-loop-phaser : goal.invariant-loop-phaser
invariant-loop-phaser g l = record {
  fronts : l.self ≡ l.initial.self;
  kept : l.logs.items ≡ l.initial.logs.items;
  all : length l.logs.items ≡ length l.self;
  limits : (n : ℕ) → n < l.phaser → (story_at l.initial.logs.items n).limits ≡ g.K.Logs.limits;
  begin : (n : ℕ) → n < l.phaser → GoesOn (story_at l.initial.self n) (story_at l.initial.logs.items n);
}
