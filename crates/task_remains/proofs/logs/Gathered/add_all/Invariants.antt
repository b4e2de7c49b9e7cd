use Rattle.std.proofs.Common.{◌≡◌, ◌+◌, length}
use Rattle.std.specs.List.{All}
use Rattle.task_remains.specs.inner.Logs.{AreGathered, IsToldIn}
use Rattle.task_remains.proofs.logs.Gathered.add_all.Given as goal

abbrev pub invariant-loop-left : goal.invariant-loop-left
invariant-loop-left g l = record {
  own : AreGathered l.self.owners l.self.parts.items;
  told : All (IsToldIn g.K.Supposing.supposed g.K.Supposing.told l.initial.told.items) l.self.parts.items;
  same : l.told.items ≡ l.initial.told.items;
  number : length l.self.parts.items ≡ length l.initial.self.parts.items + length l.yielded;
}
