-- What was read of the events so far stands for them.
use Rattle.std.proofs.Common.{◌≡◌, length, reverse, take}
use Rattle.world_model.specs.inner.Tallied.{StandsFor}
use Rattle.world_model.proofs.phaser_tally.tally_of.Given as goal

abbrev pub invariant-loop-i : goal.invariant-loop-i
invariant-loop-i l = record {
  stands : StandsFor l.tally (reverse (take l.i l.events));
  ops : l.tally.folds.ops ≡ l.history.terms.ops;
  tasks : length l.tally.tasks ≡ l.history.limits.tasks;
}
