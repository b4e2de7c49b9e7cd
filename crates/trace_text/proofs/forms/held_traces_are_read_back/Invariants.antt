use Rattle.std.proofs.Common.{take}
use Rattle.std.specs.List.{All}
use Rattle.trace_text.proofs.Held.{MayHaveForm}
use Rattle.trace_text.proofs.forms.held_traces_are_read_back.Given as goal

abbrev pub invariant-loop-place : goal.invariant-loop-place
invariant-loop-place l = All MayHaveForm (take l.place l.trace.events)
