use Rattle.std.proofs.Common.{◌≡◌, ◌++◌, nat_eq, take, drop}
use Rattle.std.specs.Map.{remove_entry}
use Rattle.phaser_judge.proofs.names.Names.remove.Given as goal

abbrev pub invariant-loop-place : goal.invariant-loop-place
invariant-loop-place l = record {
  same : l.self.tasks.items ≡ l.initial.self.tasks.items;
  before : remove_entry (nat_eq l.name) l.self.tasks.items
      ≡ take l.place l.self.tasks.items ++ remove_entry (nat_eq l.name) (drop l.place l.self.tasks.items);
}
