use Rattle.std.proofs.Common.{◌≡◌, length}
use Rattle.trace_text.proofs.Streamed.{AreSoFar}
use Rattle.trace_text.proofs.reading.stream.entries_of.Given as goal

abbrev pub invariant-loop-alloc : goal.invariant-loop-alloc
invariant-loop-alloc l = record {
  so_far : AreSoFar l.fn.version l.initial.reader l.reader l.trace.events;
  limits : l.trace.limits ≡ l.fn.limits;
}

abbrev pub decreases-loop-alloc : goal.decreases-loop-alloc
decreases-loop-alloc l = length l.reader
