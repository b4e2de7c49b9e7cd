use Rattle.std.proofs.Common.{◌≡◌, ◌+◌, ◌++◌, drop, map}
use Rattle.trace_replay.specs.Merging.{fault_from, merge_fault, entry_of}
use Rattle.trace_replay.proofs.merging.trace_of.Given as goal

abbrev pub invariant-loop-index : goal.invariant-loop-index
invariant-loop-index l = record {
  fault : fault_from l.last (l.index + 1) (drop l.index l.marks) ≡ merge_fault l.marks;
  events : l.trace.events ++ map entry_of (drop l.index l.marks) ≡ map entry_of l.marks;
  limits : l.trace.limits ≡ l.fn.limits;
}
