use Rattle.std.proofs.Common.{◌≡◌, ◌++◌, drop}
use Rattle.trace_replay.specs.Merging.{all_marked}
use Rattle.trace_replay.proofs.merging.all_marks.Given as goal

abbrev pub invariant-loop-part : goal.invariant-loop-part
invariant-loop-part l = l.marks.items ++ all_marked (drop l.part-index l.parts) ≡ all_marked l.parts
