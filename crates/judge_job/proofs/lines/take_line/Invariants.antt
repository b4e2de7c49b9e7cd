-- What was read of the line met no newline, and the reader gave it.
use Rattle.std.proofs.Common.{◌≢◌, All}
use Rattle.std.specs.Io.KnownBytes.{Consumes}
use Rattle.judge_job.proofs.lines.take_line.Given as goal

abbrev pub invariant-loop : goal.invariant-loop
invariant-loop g l = All (λ x. x ≢ 10) l.line.items × Consumes (g.B.Read.remaining l.fn.reader) (g.B.Read.remaining l.reader) l.line.items
