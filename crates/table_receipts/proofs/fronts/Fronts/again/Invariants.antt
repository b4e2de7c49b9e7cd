use Rattle.std.proofs.Common.{◌≡◌, ℕ, ◌<◌, length}
use Rattle.table_receipts.specs.Seen.{story_at, IsNamed}
use Rattle.table_receipts.proofs.fronts.Fronts.again.Given as goal

abbrev pub invariant-loop-phaser : goal.invariant-loop-phaser
invariant-loop-phaser g l = record {
  kept : l.self ≡ l.initial.self;
  all : length l.fronts.items ≡ l.phaser;
  named : IsNamed g.K.Logs.logs l.fronts.items;
  each : (n : ℕ) → n < length l.fronts.items → story_at l.fronts.items n ≡ story_at l.initial.self n;
}
