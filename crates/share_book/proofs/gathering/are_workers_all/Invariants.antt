use Rattle.std.proofs.Common.{◌≡◌, length}
use Rattle.std.specs.List.{sum_by}
use Rattle.share_book.proofs.gathering.are_workers_all.Given as goal

abbrev pub invariant-loop-share : goal.invariant-loop-share
invariant-loop-share g l = record {
  same : (l.events.amount ≡ l.initial.events.amount) × (l.up.amount ≡ l.initial.up.amount)
      × (l.down.amount ≡ l.initial.down.amount);
  parts : (l.all_events.share.parts ≡ length l.yielded) × (l.all_up.share.parts ≡ length l.yielded)
      × (l.all_down.share.parts ≡ length l.yielded);
  events : l.all_events.amount ≡ sum_by (λ a. a.events) l.yielded;
  up : l.all_up.amount ≡ sum_by (λ a. a.up) l.yielded;
  down : l.all_down.amount ≡ sum_by (λ a. a.down) l.yielded;
}
