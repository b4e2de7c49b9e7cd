use Rattle.std.proofs.Common.{◌≡◌, true, false, reverse, take}
use Rattle.phaser_judge.specs.Renaming.{all_come}
use Rattle.phaser_judge.proofs.lists.judge_all.Given as goal

abbrev pub invariant-loop-event : goal.invariant-loop-event
invariant-loop-event l = record {
  accepted : l.judge ≡ record { events = reverse (take l.event-index l.events); over = false };
  come : all_come (reverse (take l.event-index l.events)) ≡ true;
}
