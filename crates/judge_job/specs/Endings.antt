-- How judging a log ends, for the bytes of a reader if they are known.
use Rattle.std.specs.Prelude.{◌≡◌, ◌⊎◌, ◌++◌, ◌%◌, ◌==◌, ℕ, Bool, true, false, max, List, [], ◌∷◌, Option, Some, None, Result, Ok, Err, IfSome, ⊤}
use Rattle.std.specs.Io.KnownBytes.{Appends}
use Rattle.phase_modes.specs.declared.refusal.Refusal.{Refusal}
use Rattle.phase_modes.specs.declared.refusal.Refusal.TheVariants.{BadText, NotExplained}
use Rattle.job_ends.specs.Ends.{AppendsFront, failure_line, status_of}
use Rattle.job_ends.specs.declared.failure.Failure.{Failure}
use Rattle.job_ends.specs.declared.failure.Status.{Status}
use Rattle.job_ends.specs.declared.failure.Failure.TheVariants.{Refused, Write}
use Rattle.phaser_judge.specs.declared.event.NamedEvent.{NamedEvent}
use Rattle.phaser_judge.specs.declared.owing.Owing.{Owing}
use Rattle.phaser_judge.specs.Courses.{totals_of}
use Rattle.phaser_judge.specs.Renaming.{AreLegal}
use Rattle.judge_job.specs.declared.report.Every.{Every}
use Rattle.judge_job.specs.declared.report.Every.TheVariants.{Events, Seconds}
use Rattle.judge_job.specs.declared.report.Report.{Report}
use Rattle.judge_job.specs.declared.stop.Reason.{Reason}
use Rattle.judge_job.specs.declared.stop.Reason.TheVariants.{NoHeader, NoEvent, TooLong, Ticket, Event}
use Rattle.judge_job.specs.declared.stop.Stop.{Stop}
use Rattle.judge_job.specs.declared.stop.Stop.TheVariants.{Line, Failed}
use Rattle.judge_job.specs.Lines.{lines, IsOfTaking, IsOfLongLine}
use Rattle.judge_job.specs.Logs.{Judged, Refusing, refusing, headed_from, judged_from, judged_log}
use Rattle.judge_job.specs.Standing.{text_of, IsOwed, IsReportOf}
use Rattle.judge_job.specs.Words.{why_text}

-- ---- why judging stopped

-- the refusal of line n for this reason
abbrev pub refusal_at : ℕ → Reason → Refusal
refusal_at n NoHeader = BadText n
refusal_at n NoEvent = BadText n
refusal_at n TooLong = BadText n
refusal_at n (Ticket t) = NotExplained n
refusal_at n (Event e why) = NotExplained n

-- the failure with which the job ends
abbrev pub failure_of : Stop → Failure
failure_of (Line n why) = Refused (refusal_at n why)
failure_of (Failed f) = f

-- the events that a verdict has judged: all, or those before the first line that isn't accepted
abbrev pub events_in : Result Judged Refusing → List NamedEvent
events_in (Ok j) = j.events
events_in (Err r) = r.before.events

-- what was judged is a beginning of that
abbrev pub IsBegun : Judged → Result Judged Refusing → Type 0
IsBegun j verdict = (later : List NamedEvent) × (events_in verdict ≡ later ++ j.events)

-- a read, a write or memory failed
abbrev pub IsOfFailing : Failure → Type 0
IsOfFailing f = IsOfTaking f ⊎ (f ≡ Write)

-- it is such a failure, if it is one
abbrev pub IsFailing : Stop → Type 0
IsFailing (Line n why) = ⊤
IsFailing (Failed f) = IsOfFailing f

-- after this was judged, the first line stands there that isn't accepted; or a read, a write or memory failed
abbrev pub IsStop : (List ℕ → Result Judged Refusing) → Option (List ℕ) → Judged → Stop → Type 0
IsStop verdict known j (Line n why) = IfSome known (λ xs. verdict xs ≡ refusing n j why)
IsStop verdict known j (Failed f) = IsOfFailing f × IfSome known (λ xs. IsBegun j (verdict xs))

-- a failure to take line n: a read, want of memory, or a line that is too long
abbrev pub IsOfNext : ℕ → ℕ → Option (List ℕ) → Stop → Type 0
IsOfNext most n known (Line m why) = (m ≡ n) × (why ≡ TooLong) × IfSome known (IsOfLongLine most)
IsOfNext most n known (Failed f) = IsOfTaking f

-- the verdict on the lines from line n on
abbrev pub rest_from : ℕ → Judged → List ℕ → Result Judged Refusing
rest_from n j xs = judged_from n j (lines xs)

-- the same, if the header is still to come
abbrev pub head_from : ℕ → List ℕ → Result Judged Refusing
head_from n xs = headed_from n (lines xs)

-- what is left has the verdict that the known bytes had
abbrev pub GoesOn : (List ℕ → Result Judged Refusing) → Option (List ℕ) → (List ℕ → Result Judged Refusing) → Option (List ℕ) → Type 0
GoesOn before None after left = ⊤
GoesOn before (Some xs) after None = ⊥
GoesOn before (Some xs) after (Some ys) = before xs ≡ after ys

-- ---- what is told while judging goes on

-- whether a report is told after the event with which so many were counted: never without `every`, after each N, or as
-- the clock says
abbrev pub IsDue : Option Every → ℕ → Bool → Type 0
IsDue None count told = told ≡ false
IsDue (Some (Events n)) count told = told ≡ (count % max n 1 == 0)
IsDue (Some (Seconds n)) count told = ⊤

-- the report of these events was appended; unless all was written whole, maybe a beginning of it
abbrev pub IsReported : Bool → List NamedEvent → Option (List ℕ) → Option (List ℕ) → Type 0
IsReported whole es old new = (r : Report) × IsReportOf es r × AppendsFront whole old new (text_of r)

-- so if the report is told, and else nothing
abbrev pub IsReportedIf : Bool → Bool → List NamedEvent → Option (List ℕ) → Option (List ℕ) → Type 0
IsReportedIf true whole es old new = IsReported whole es old new
IsReportedIf false whole es old new = new ≡ old

-- after the newest of these events its report was told, if it was due
abbrev pub TellsAfter : Option Every → Bool → List NamedEvent → Option (List ℕ) → Option (List ℕ) → Type 0
TellsAfter every whole es old new =
    (told : Bool) × IsDue every (totals_of es).events told × IsReportedIf told whole es old new

-- after each of these events its report was told, if it was due
abbrev pub Tells : Option Every → Bool → List NamedEvent → Option (List ℕ) → Option (List ℕ) → Type 0
Tells every whole [] old new = new ≡ old
Tells every whole (e ∷ es) old new =
    (between : Option (List ℕ)) × Tells every whole es old between × TellsAfter every whole (e ∷ es) between new

-- ---- how judging ended

-- the log is accepted: at every moment each phaser's history is legal, with the tasks' numbers replaced by fresh ones.
-- Exactly the report of its events went to `out`, and to `faults` what `every` asks for
pub record IsAccepted (known : Option (List ℕ)) (every : Option Every) (whole : Bool)
    (out out_after faults faults_after : Option (List ℕ)) : Type 0 where
  pub judged : Judged
  pub accepted : IfSome known (λ all. (judged_log all ≡ Ok judged) × AreLegal judged.events)
  pub counts : (r : Report) × IsReportOf judged.events r × Appends out out_after (text_of r)
  pub tells : Tells every whole judged.events faults faults_after

-- why judging stopped is said: the refusal, and why the line isn't accepted; or the failure
abbrev pub SaysWhy : Bool → Judged → Stop → Option (List ℕ) → Option (List ℕ) → Type 0
SaysWhy whole j (Line n why) old new =
    (o : Owing) × IsOwed j (Line n why) o × AppendsFront whole old new (failure_line (Refused (refusal_at n why)) ++ why_text n why o)
SaysWhy whole j (Failed f) old new = (reported : Bool) × AppendsFront reported old new (failure_line f)

-- whether the report of what was judged before is whole: after a failure it may be a beginning
abbrev pub is_whole_at : Stop → Bool → Bool
is_whole_at (Line n why) whole = whole
is_whole_at (Failed f) whole = false

-- judging stopped: first was told what `every` asks for, and then why; and what was judged before was reported
pub record IsStopped (known : Option (List ℕ)) (every : Option Every) (whole : Bool) (s : Status)
    (out out_after faults faults_after : Option (List ℕ)) : Type 0 where
  pub judged : Judged
  pub stop : Stop
  pub status : s ≡ status_of (failure_of stop)
  pub why : IsStop judged_log known judged stop
  pub told : Option (List ℕ)
  pub tells : Tells every whole judged.events faults told
  pub says : SaysWhy whole judged stop told faults_after
  pub counts : IsReported (is_whole_at stop whole) judged.events out out_after
