use Rattle.std.proofs.Common.{◌≡◌, length}
use Rattle.std.specs.List.{sum_by}
use Rattle.share_book.proofs.gathering.are_phasers_all.Given as goal

abbrev pub invariant-loop-phaser : goal.invariant-loop-phaser
invariant-loop-phaser g l = record {
  same : (l.events.amount ≡ l.initial.events.amount) × (l.up.amount ≡ l.initial.up.amount)
      × (l.down.amount ≡ l.initial.down.amount);
  parts : (l.all_events.share.parts ≡ length l.yielded) × (l.all_up.share.parts ≡ length l.yielded)
      × (l.all_down.share.parts ≡ length l.yielded);
  events : l.all_events.amount ≡ sum_by (λ b. b.totals.events) l.yielded;
  up : l.all_up.amount ≡ sum_by (λ b. b.totals.up) l.yielded;
  down : l.all_down.amount ≡ sum_by (λ b. b.totals.down) l.yielded;
}
