use Rattle.std.proofs.Common.{◌≡◌, ◌++◌, drop}
use Rattle.trace_replay.specs.Merging.{marked_after}
use Rattle.trace_replay.proofs.merging.mark_part.Given as goal

abbrev pub invariant-loop-place : goal.invariant-loop-place
invariant-loop-place l = l.marks.items ++ marked_after l.most (drop l.place l.part) ≡ l.fn.marks.items ++ marked_after 0 l.part
