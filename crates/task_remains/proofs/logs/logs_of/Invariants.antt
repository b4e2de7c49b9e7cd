use Rattle.std.proofs.Common.{◌≡◌, length, map}
use Rattle.std.specs.List.{All, sum as total}
use Rattle.task_remains.specs.inner.Logs.{AreGathered, IsToldIn}
use Rattle.task_remains.proofs.logs.logs_of.Given as goal

abbrev pub invariant-loop-of_finish : goal.invariant-loop-of_finish
invariant-loop-of_finish g l = record {
  own : AreGathered l.gathered.owners l.gathered.parts.items;
  told : All (IsToldIn g.K.Supposing.supposed g.K.Supposing.told l.initial.told.items) l.gathered.parts.items;
  same : l.told.items ≡ l.initial.told.items;
  number : length l.gathered.parts.items ≡ total (map (λ d. length d.items) l.yielded);
}
