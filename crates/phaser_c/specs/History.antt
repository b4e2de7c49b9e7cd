-- The history of a phaser as the text of a trace, told in a room.
use Rattle.std.specs.Prelude.{◌≡◌, ◌≢◌, ◌⊎◌, ℕ, List, length, nat_le, if◌then◌else◌, Option, None, Some}
use Rattle.phase_modes.specs.declared.refusal.Refusal.TheVariants.{Memory}
use Rattle.phase_model.specs.Rules.{Story}
use Rattle.trace_model.specs.Told.{phaser_told}
use Rattle.trace_text.specs.Text.{trace_text}
use Rattle.phaser_engine.specs.Phaser.{Phaser}
use Rattle.phaser_c.specs.Answers.{number_of_answer}
use Rattle.phaser_c.specs.Told.{IsTold}
use Rattle.phaser_c.specs.declared.answer.ExportAnswer.{ExportAnswer}
use Rattle.phaser_c.specs.declared.answer.ExportAnswer.TheVariants.{Done, Short, Closed, BadTickets, Refused}

-- the text of the trace that has the events of this phaser alone, under a number, with tickets
abbrev pub history_text : ℕ → Story → List ℕ → List ℕ
history_text number s tickets = trace_text (record { limits = s.limits; events = phaser_told number s tickets })

-- how a text is answered that is told in a room
abbrev pub answer_in : List ℕ → List ℕ → ExportAnswer
answer_in text room = if nat_le (length text) (length room) then Done else Short

-- the text of the history is told, or nothing if memory is refused or the tickets aren't one for each event
abbrev pub IsHistory : ℕ → Story → List ℕ → List ℕ → List ℕ → ℕ → ℕ → ExportAnswer → Type 0
IsHistory number s tickets old new before written a =
    (length tickets ≢ length s.past → (a ≡ BadTickets) × (new ≡ old) × (written ≡ before))
    × (length tickets ≡ length s.past → ((a ≡ Refused Memory) × (new ≡ old) × (written ≡ before))
    ⊎ (IsTold (history_text number s tickets) old new written × (a ≡ answer_in (history_text number s tickets) old)))

-- the same of what a handle holds
abbrev pub IsHistoryTold : Option Phaser → ℕ → List ℕ → List ℕ → List ℕ → ℕ → ℕ → ℕ → Type 0
IsHistoryTold None number tickets old new before written answer =
    (answer ≡ number_of_answer Closed) × (new ≡ old) × (written ≡ before)
IsHistoryTold (Some p) number tickets old new before written answer =
    (a : ExportAnswer) × (answer ≡ number_of_answer a) × IsHistory number p.story tickets old new before written a
