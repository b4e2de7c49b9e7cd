use Rattle.std.proofs.Common.{Option, List, ℕ, drop}
use Rattle.std.specs.Io.KnownBytes.{Appends}
use Rattle.phase_model.specs.Replies.{replies}
use Rattle.text_jobs.specs.EventsLines.{text_of}
use Rattle.text_jobs.proofs.events.write_replies.Given as goal

abbrev pub invariant-loop-call : goal.invariant-loop-call
invariant-loop-call g l =
    (final : Option (List ℕ))
    → Appends (g.W.Write.contents l.out) final (text_of (replies l.state.story (drop l.call-index l.calls)))
    → Appends (g.W.Write.contents l.initial.out) final (text_of (replies l.initial.state.story l.calls))
