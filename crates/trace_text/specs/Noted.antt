-- The numbers of refusals that the logs in a trace note.
use Rattle.std.specs.Prelude.{◌≡◌, Bool, true}
use Rattle.std.specs.List.{list_all}
use Rattle.trace_model.specs.declared.event.TracedEvent.{TracedEvent}
use Rattle.trace_model.specs.declared.event.TracedEvent.TheVariants.{Refuse, Fail}
use Rattle.trace_model.specs.Explained.{is_explained}
use Rattle.trace_model.specs.Run.{Run}
use Rattle.trace_text.specs.Form.{is_refusal}

-- if the event notes a refusal, its number is that of one
abbrev pub notes_refusal : TracedEvent → Bool
notes_refusal (Refuse t a n) = is_refusal n
notes_refusal (Fail t n) = is_refusal n
notes_refusal _ = true

-- so does each event
abbrev pub notes_refusals : Run → Bool
notes_refusals r = list_all (λ e. notes_refusal e.1) r.events

-- an explained trace notes no other numbers
abbrev pub ExplainedNoteRefusals : Type 0
ExplainedNoteRefusals = (r : Run) → is_explained r ≡ true → notes_refusals r ≡ true
