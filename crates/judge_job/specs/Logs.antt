-- What the judge says of a log, line by line, and of the bytes of one.
use Rattle.std.specs.Prelude.{◌≡◌, ◌+◌, ◌==◌, ◌||◌, ℕ, Bool, true, nat_lt, if◌then◌else◌, List, [], ◌∷◌, length, Option, Some, None, Result, Ok, Err}
use Rattle.std.specs.List.{list_all}
use Rattle.std.specs.Io.BufRead.{strip_last}
use Rattle.phaser_judge.specs.declared.event.NamedEvent.{NamedEvent}
use Rattle.phaser_judge.specs.declared.refused.Refused.{Refused}
use Rattle.phaser_judge.specs.declared.refused.Refused.TheVariants.{Over}
use Rattle.phaser_judge.specs.Standings.{standing, may_come}
use Rattle.phaser_judge.specs.Reasons.{verdict_at}
use Rattle.phaser_judge.specs.Renaming.{AreLegal}
use Rattle.judge_job.specs.declared.line.Line.{Line}
use Rattle.judge_job.specs.declared.stop.Reason.{Reason}
use Rattle.judge_job.specs.declared.stop.Reason.TheVariants.{NoHeader, NoEvent, TooLong, Ticket, Event}
use Rattle.judge_job.specs.Forms.{line_in, is_header, most_bytes}
use Rattle.judge_job.specs.Lines.{lines}

-- what was judged: the events of phasers, the newest first, and the ticket of the last line
pub record Judged : Type 0 where
  pub events : List NamedEvent
  pub last : Option ℕ

-- before the first event
abbrev pub nothing : Judged
nothing = record { events = []; last = None }

-- the first line that isn't accepted: its number, why it isn't, and what was judged before it
pub record Refusing : Type 0 where
  pub line : ℕ
  pub reason : Reason
  pub before : Judged

-- line n isn't accepted after what was judged, for this reason
abbrev pub refusing : ℕ → Judged → Reason → Result Judged Refusing
refusing n j why = Err (record { line = n; reason = why; before = j })

-- the ticket is greater than that of the line before
abbrev pub rises : Option ℕ → ℕ → Bool
rises None ticket = true
rises (Some last) ticket = nat_lt last ticket

-- why an event can't happen of which this is said
abbrev pub why_not : Result (Unit {0}) Refused → Refused
why_not (Err why) = why
why_not (Ok u) = Over

-- the event of line n comes, if it can happen; what is no event of a phaser isn't judged
abbrev pub after_event : ℕ → ℕ → Judged → Option NamedEvent → Result Judged Refusing
after_event n ticket j None = Ok (record { events = j.events; last = Some ticket })
after_event n ticket j (Some e) =
    if may_come (standing e.phaser j.events) e.event
    then Ok (record { events = e ∷ j.events; last = Some ticket })
    else refusing n j (Event e (why_not (verdict_at (standing e.phaser j.events) e.event)))

-- what line n spells comes
abbrev pub after_spelled : ℕ → Judged → Option Line → Result Judged Refusing
after_spelled n j None = refusing n j NoEvent
after_spelled n j (Some l) = if rises j.last l.ticket then after_event n l.ticket j l.event else refusing n j (Ticket l.ticket)

-- a space, a tab or a carriage return
abbrev pub is_blank_byte : ℕ → Bool
is_blank_byte b = (b == 32) || (b == 9) || (b == 13)

-- the line is empty, or has only such
abbrev pub is_blank : List ℕ → Bool
is_blank bytes = list_all is_blank_byte bytes

-- the line has more bytes than a line may have
abbrev pub is_long : List ℕ → Bool
is_long bytes = nat_lt most_bytes (length bytes)

-- after line n, without its newline; a blank line says nothing
abbrev pub after_line : ℕ → Judged → List ℕ → Result Judged Refusing
after_line n j bytes =
    if is_long bytes then refusing n j TooLong
    else (if is_blank bytes then Ok j else after_spelled n j (line_in bytes))

-- what comes after what was judged, or the refusal
abbrev pub and_then : (Judged → Result Judged Refusing) → Result Judged Refusing → Result Judged Refusing
and_then next (Ok j) = next j
and_then next (Err r) = Err r

-- the lines from line n on: what was judged in the end, or the first that isn't accepted
abbrev pub judged_from : ℕ → Judged → List (List ℕ) → Result Judged Refusing
judged_from n j [] = Ok j
judged_from n j (l ∷ ls) = and_then (λ k. judged_from (n + 1) k ls) (after_line n j (strip_last 10 l))

-- line n, before the header: a blank line is skipped, and after the header come the events
abbrev pub at_header : ℕ → List ℕ → Result Judged Refusing → Result Judged Refusing → Result Judged Refusing
at_header n bytes skipped headed =
    if is_long bytes then refusing n nothing TooLong
    else (if is_blank bytes then skipped else (if is_header bytes then headed else refusing n nothing NoHeader))

-- the lines from line n on, before the header
abbrev pub headed_from : ℕ → List (List ℕ) → Result Judged Refusing
headed_from n [] = refusing n nothing NoHeader
headed_from n (l ∷ ls) = at_header n (strip_last 10 l) (headed_from (n + 1) ls) (judged_from (n + 1) nothing ls)

-- the bytes of a log: what was judged in the end, or the first line that isn't accepted
unfoldable pub judged_log : List ℕ → Result Judged Refusing
judged_log bytes = headed_from 1 (lines bytes)

-- in a log that is accepted each phaser's history is legal at every moment, with the tasks' numbers replaced by fresh
-- ones
abbrev pub AcceptedLogsAreLegal : Type 0
AcceptedLogsAreLegal = (bytes : List ℕ) (j : Judged) → judged_log bytes ≡ Ok j → AreLegal j.events
