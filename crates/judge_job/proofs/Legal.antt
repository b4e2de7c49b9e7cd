-- The events of a log that is accepted are a legal history of each phaser.
use Rattle.std.proofs.Common.{◌≡◌, ℕ, ◌+◌, Bool, true, false, cond, ◌&&◌, List, [], ◌∷◌, Option, None, Some, Result, Ok, Err, IfSome, refl, ap, subst, ◌∙◌}
use Rattle.std.specs.Io.BufRead.{strip_last}
use Rattle.phaser_judge.specs.declared.event.NamedEvent.{NamedEvent}
use Rattle.phaser_judge.specs.Standings.{standing, may_come}
use Rattle.phaser_judge.specs.Renaming.{all_come, AreLegal}
use Rattle.phaser_judge.proofs.Lives.{accepted_are_legal}
use Rattle.judge_job.specs.declared.line.Line.{Line}
use Rattle.judge_job.specs.declared.stop.Reason.TheVariants.{NoHeader, TooLong}
use Rattle.judge_job.specs.Forms.{line_in, is_header}
use Rattle.judge_job.specs.Lines.{lines}
use Rattle.judge_job.specs.Logs.{Judged, Refusing, refusing, rises, is_long, is_blank, after_event, after_spelled, after_line, and_then, judged_from, headed_from, judged_log, nothing, AcceptedLogsAreLegal}
use Rattle.judge_job.specs.Endings.{head_from}

-- the events that were accepted
abbrev events_of : Result Judged Refusing → List NamedEvent
events_of (Ok j) = j.events
events_of (Err r) = []

-- each may come after those before it
abbrev Come : Result Judged Refusing → Type 0
Come r = all_come (events_of r) ≡ true

event_comes : (n t : ℕ) (j : Judged) (o : Option NamedEvent) → all_come j.events ≡ true → Come (after_event n t j o)
event_comes n t j None come = come
event_comes n t j (Some e) come = at (may_come (standing e.phaser j.events) e.event) refl _
  where
    at : (b : Bool) → may_come (standing e.phaser j.events) e.event ≡ b → (r : Refusing)
        → Come (cond b (Ok (record { events = e ∷ j.events; last = Some t })) (Err r))
    at true h r = ap (λ c. c && all_come j.events) h ∙ come
    at false h r = refl

spelled_comes : (n : ℕ) (j : Judged) (o : Option Line) → all_come j.events ≡ true → Come (after_spelled n j o)
spelled_comes n j None come = refl
spelled_comes n j (Some l) come = at (rises j.last l.ticket) _
  where
    at : (b : Bool) (r : Refusing) → Come (cond b (after_event n l.ticket j l.event) (Err r))
    at true r = event_comes n l.ticket j l.event come
    at false r = refl

line_comes : (n : ℕ) (j : Judged) (bytes : List ℕ) → all_come j.events ≡ true → Come (after_line n j bytes)
line_comes n j bytes come = at (is_long bytes) (is_blank bytes)
  where
    at : (b c : Bool) → Come (cond b (refusing n j TooLong) (cond c (Ok j) (after_spelled n j (line_in bytes))))
    at true c = refl
    at false true = come
    at false false = spelled_comes n j (line_in bytes) come

then_comes : (next : Judged → Result Judged Refusing) → ((j : Judged) → all_come j.events ≡ true → Come (next j))
    → (r : Result Judged Refusing) → Come r → Come (and_then next r)
then_comes next h (Ok j) come = h j come
then_comes next h (Err r) come = refl

lines_come : (n : ℕ) (j : Judged) (ls : List (List ℕ)) → all_come j.events ≡ true → Come (judged_from n j ls)
lines_come n j [] come = come
lines_come n j (l ∷ ls) come =
    then_comes (λ k. judged_from (n + 1) k ls) (λ k h. lines_come (n + 1) k ls h) (after_line n j (strip_last 10 l))
    (line_comes n j (strip_last 10 l) come)

log_comes : (n : ℕ) (ls : List (List ℕ)) → Come (headed_from n ls)
log_comes n [] = refl
log_comes n (l ∷ ls) =
    at (log_comes (n + 1) ls) (is_long (strip_last 10 l)) (is_blank (strip_last 10 l)) (is_header (strip_last 10 l))
  where
    at : Come (headed_from (n + 1) ls) → (b c d : Bool) → Come (cond b (refusing n nothing TooLong)
        (cond c (headed_from (n + 1) ls) (cond d (judged_from (n + 1) nothing ls) (refusing n nothing NoHeader))))
    at skipped true c d = refl
    at skipped false true d = skipped
    at skipped false false true = lines_come (n + 1) nothing ls refl
    at skipped false false false = refl

pub accepted_logs_are_legal : AcceptedLogsAreLegal
unfolding judged_log
accepted_logs_are_legal bytes j is = (accepted_are_legal j.events).0 (subst Come is (log_comes 1 (lines bytes)))

-- what is known if a log is accepted
pub accepted : (a : Option (List ℕ)) (j : Judged) → IfSome a (λ xs. head_from 1 xs ≡ Ok j)
    → IfSome a (λ xs. (judged_log xs ≡ Ok j) × AreLegal j.events)
unfolding judged_log
accepted None j is = tt
accepted (Some xs) j is = (is, accepted_logs_are_legal xs j is)
