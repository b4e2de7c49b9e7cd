-- What a task did itself, as a history has it.
use Rattle.std.specs.Prelude.{ℕ, ◌+◌, Bool, false, Option, None, Some, ◌==◌, List, [], ◌∷◌, ◌++◌}
use Rattle.std.specs.List.{filter}
use Rattle.phase_model.specs.declared.history.Event.{Event}
use Rattle.phase_model.specs.declared.history.Event.TheVariants.{Send}
use Rattle.phase_model.specs.Phases.{signals}
use Rattle.level_phaser.specs.declared.view.Deeds.{Deeds}
use Rattle.level_phaser.specs.declared.round.GivenSend.{GivenSend}

-- t sent a value in this event
abbrev pub is_sent_by : ℕ → Event → Bool
is_sent_by t (Send u a v) = u == t
is_sent_by t _ = false

-- a value that the task keeps to send it, as an event
abbrev pub kept_in : ℕ → Option GivenSend → List Event
kept_in task None = []
kept_in task (Some g) = Send task g.accumulator g.value ∷ []

-- so many signals, and these sends
abbrev pub deeds : ℕ → List Event → Deeds
deeds signalled sent = record { signals = signalled; sends = sent }

-- how many phases t has signalled, those of its parent at the registration among them, and what it sent, newest first
abbrev pub deeds_of : ℕ → List Event → Deeds
deeds_of t h = deeds (signals t h) (filter (is_sent_by t) h)

-- one signal more
abbrev pub with_signal : Deeds → Deeds
with_signal d = deeds (d.signals + 1) d.sends

-- these sends more
abbrev pub with_sends : List Event → Deeds → Deeds
with_sends es d = deeds d.signals (es ++ d.sends)

-- one send more
abbrev pub with_send : Event → Deeds → Deeds
with_send e d = deeds d.signals (e ∷ d.sends)
