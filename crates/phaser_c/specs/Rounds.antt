-- A round by an export: of the phaser in a handle, while nobody is parked.
use Rattle.std.specs.Prelude.{◌≡◌, ℕ, Bool, false, ◌&&◌, nat_le, if◌then◌else◌, List, [], ◌∷◌, length, map, Option, Some, None, Result, Ok, Err}
use Rattle.phase_modes.specs.declared.refusal.Refusal.TheVariants.{NotNow}
use Rattle.phase_modes.specs.Lists.{is_empty}
use Rattle.phase_model.specs.Phases.{waits}
use Rattle.long_locks.specs.declared.cell.LongCell.{LongCell}
use Rattle.long_locks.specs.declared.course.Then.{Then}
use Rattle.level_phaser.specs.declared.round.RoundCourse.{RoundCourse}
use Rattle.level_phaser.specs.declared.round.GivenSend.{GivenSend}
use Rattle.level_phaser.specs.Rounds.{Round, round, send_of, are_level}
use Rattle.phaser_c.specs.declared.answer.ExportAnswer.{ExportAnswer}
use Rattle.phaser_c.specs.declared.answer.ExportAnswer.TheVariants.{Done, Refused}

-- they are few enough for one round
abbrev pub are_few : List GivenSend → List ℕ → Bool
are_few sends ts = nat_le (length sends) 65536 && nat_le (length ts) 256

-- the round of phase p at a cell; no call is made if somebody is parked, or if they were too many
abbrev pub round_at : ℕ → List GivenSend → List ℕ → LongCell Then → Round
round_at p sends ts c =
    if is_empty c.parked.items && are_few sends ts
    then round p c.state.story (map send_of sends) ts
    else record { story = c.state.story; made = 0; is_whole = false }

-- a round was made at one cell, which became the other: its calls, and nothing else
abbrev pub IsRound : ℕ → List GivenSend → List ℕ → LongCell Then → LongCell Then → Type 0
IsRound p sends ts c d =
    (d.state.story ≡ (round_at p sends ts c).story) × (d.state.next ≡ c.state.next) × (d.parked ≡ c.parked)

-- what is answered to a round: done if it is whole, else not now; or why the cell wasn't asked
abbrev pub answer_of_round : Result Round ExportAnswer → ExportAnswer
answer_of_round (Ok r) = if r.is_whole then Done else Refused NotNow
answer_of_round (Err why) = why

-- the same of a round as the code has it
abbrev pub answer_of_course : RoundCourse → ExportAnswer
answer_of_course c = if c.is_whole then Done else Refused NotNow

-- how many calls were made; if the cell wasn't asked, what was there before
abbrev pub made_told : ℕ → Result Round ExportAnswer → ℕ
made_told old (Ok r) = r.made
made_told old (Err why) = old

-- the phase in which all these tasks stand level, while nobody is parked; there is none of no tasks
abbrev pub level_of : List ℕ → LongCell Then → Option ℕ
level_of [] c = None
level_of (t ∷ ts) c =
    let p = waits t c.state.story.past in
    if is_empty c.parked.items && are_level p c.state.story (t ∷ ts) then Some p else None

-- what is answered if this is the phase; not now if there is none; or why the cell wasn't asked
abbrev pub answer_of_level : Result (Option ℕ) ExportAnswer → ExportAnswer
answer_of_level (Ok None) = Refused NotNow
answer_of_level (Ok (Some p)) = Done
answer_of_level (Err why) = why

-- the phase; if there is none, what was there before
abbrev pub level_told : ℕ → Result (Option ℕ) ExportAnswer → ℕ
level_told old (Ok (Some p)) = p
level_told old _ = old
