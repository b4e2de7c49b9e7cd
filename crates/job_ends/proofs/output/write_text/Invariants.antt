use Rattle.std.proofs.Common.{◌≤◌, length, take}
use Rattle.std.specs.Io.KnownBytes.{Appends}
use Rattle.job_ends.proofs.output.write_text.Given as goal

abbrev pub invariant-loop : goal.invariant-loop
invariant-loop g l = record {
  within : l.written ≤ length l.bytes;
  front : Appends (g.F.Write.contents l.initial.faults) (g.F.Write.contents l.faults)
      (take l.written l.bytes);
}
