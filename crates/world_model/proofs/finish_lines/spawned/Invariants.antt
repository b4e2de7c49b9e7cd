-- As many as the events so far spawned.
use Rattle.std.proofs.Common.{◌≡◌, ◌≤◌, length, reverse, take}
use Rattle.finish_core.specs.Finish.{spawned_tasks}
use Rattle.world_model.proofs.finish_lines.spawned.Given as goal

abbrev pub invariant-loop-i : goal.invariant-loop-i
invariant-loop-i l = record {
  tasks : l.tasks ≡ length (spawned_tasks (reverse (take l.i l.events)));
  few : l.tasks ≤ l.i;
}
