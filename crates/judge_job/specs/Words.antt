-- Why a line isn't accepted, in words: the second line on standard error.
use Rattle.std.specs.Prelude.{ℕ, ℤ, ◌-◌, ◌++◌, ◌==◌, nat_le, if◌then◌else◌, List, length, slice_index, slice_range, flat_map, codes, decimal}
use Rattle.std.specs.Fmt.{signed_decimal}
use Rattle.phase_modes.specs.declared.refusal.Refusal.{Refusal}
use Rattle.phase_modes.specs.declared.refusal.Refusal.TheVariants as refusals
use Rattle.phase_model.specs.declared.op.Look.{Look}
use Rattle.phase_model.specs.declared.op.Look.TheVariants.{Value, Nothing}
use Rattle.phaser_judge.specs.declared.event.Named.{Named}
use Rattle.phaser_judge.specs.declared.event.Named.TheVariants as named
use Rattle.phaser_judge.specs.declared.owing.Owing.{Owing}
use Rattle.phaser_judge.specs.declared.refused.Refused.{Refused}
use Rattle.phaser_judge.specs.declared.refused.Refused.TheVariants as why
use Rattle.judge_job.specs.declared.stop.Reason.{Reason}
use Rattle.judge_job.specs.declared.stop.Reason.TheVariants.{NoHeader, NoEvent, TooLong, Ticket, Event}

-- ---- tasks

-- another task of a list
abbrev pub next_text : ℕ → List ℕ
next_text t = codes ", " ++ decimal t

-- how many of n tasks stand before the last word of a list: all but one; of more than nine the first eight
abbrev pub before_last : ℕ → ℕ
before_last n = if nat_le n 9 then n - 1 else 8

-- the last word of a list: the last task, or how many more there are
abbrev pub last_text : List ℕ → List ℕ
last_text ts =
    if nat_le (length ts) 9
    then codes " and " ++ decimal (slice_index ts (length ts - 1))
    else codes " and " ++ decimal (length ts - 8) ++ codes " more"

-- several tasks
abbrev pub list_text : List ℕ → List ℕ
list_text ts =
    ((codes "tasks " ++ decimal (slice_index ts 0)) ++ flat_map next_text (slice_range ts 1 (before_last (length ts)))) ++ last_text ts

-- tasks, as `task 3 hasn't` or `tasks 1, 2 and 3 haven't`
abbrev pub tasks_text : List ℕ → List ℕ
tasks_text ts =
    if length ts == 1 then codes "task " ++ decimal (slice_index ts 0) ++ codes " hasn't" else list_text ts ++ codes " haven't"

-- ---- an event that can't happen

-- the acting task
abbrev pub task_of : Named → ℕ
task_of (named.Make t m ops b) = t
task_of (named.Reg q t m) = q
task_of (named.Sig t n) = t
task_of (named.Claim t) = t
task_of (named.Did t) = t
task_of (named.Pass t) = t
task_of (named.Send t a v) = t
task_of (named.Look t a x) = t
task_of (named.Drop t) = t

-- the child that an event registers; of other events the acting task
abbrev pub child_of : Named → ℕ
child_of (named.Reg q t m) = t
child_of e = task_of e

-- the phase that had to be waited for, and the tasks that hadn't signalled it
abbrev pub open_text : ℕ → Owing → List ℕ
open_text p o =
    ((codes "phase " ++ decimal o.phase ++ codes " of phaser " ++ decimal p ++ codes " isn't closed: ")
    ++ tasks_text o.tasks.items) ++ codes " signalled it"

-- a pass or a claim that had to wait: for tasks, or for a single
abbrev pub closing_text : ℕ → ℕ → Owing → List ℕ
closing_text p t o =
    if length o.tasks.items == 0
    then codes "task " ++ decimal t ++ codes " had to wait: the single of its phase of phaser " ++ decimal p ++ codes " isn't done"
    else open_text p o

-- an event that had to wait
abbrev pub wait_text : ℕ → Named → Owing → List ℕ
wait_text p (named.Sig t n) o =
    codes "task " ++ decimal t ++ codes " had to wait: the bound of phaser " ++ decimal p ++ codes " holds its signal back"
wait_text p e o = closing_text p (task_of e) o

-- what the phaser's refusal of a call means
abbrev pub refusal_words : Refusal → List ℕ
refusal_words refusals.NotRegistered = codes "it isn't registered there"
refusal_words refusals.NoSignal = codes "its mode can't signal"
refusal_words refusals.NoWait = codes "its mode can't wait"
refusal_words refusals.NoSingle = codes "its mode isn't SINGLE"
refusal_words refusals.AlreadySignalled = codes "it has signalled since its last turn"
refusal_words refusals.NotSignalled = codes "it hasn't signalled its phase"
refusal_words refusals.SingleMismatch = codes "another single is proposed in this phase, or another task runs it"
refusal_words refusals.NoAccumulator = codes "the phaser has no accumulator of that number"
refusal_words refusals.NoPhaseYet = codes "it hasn't finished a turn there yet"
refusal_words refusals.MoreThanParent = codes "the child's mode isn't within its own"
refusal_words refusals.RegisteredTwice = codes "the child is registered there already"
refusal_words refusals.RegsFull = codes "the phaser has its most tasks, 256"
refusal_words refusals.NotNow = codes "this isn't the moment for it"
refusal_words _ = codes "the phaser refuses it"

-- what a look would have seen
abbrev pub seen_text : Look ℤ → List ℕ
seen_text (Value v) = codes "the value " ++ signed_decimal v
seen_text Nothing = codes "nothing, null"

-- why the event of phaser p can't happen
abbrev pub event_text : ℕ → Named → Refused → Owing → List ℕ
event_text p e why.NotMade o = codes "phaser " ++ decimal p ++ codes " isn't made, or its last task has left it"
event_text p e why.MadeAlready o = codes "phaser " ++ decimal p ++ codes " is made already"
event_text p e why.NotRegistered o =
    codes "task " ++ decimal (task_of e) ++ codes " isn't registered on phaser " ++ decimal p
event_text p e why.RegisteredAlready o =
    codes "task " ++ decimal (child_of e) ++ codes " is registered on phaser " ++ decimal p ++ codes " already"
event_text p e (why.Rule r) o =
    codes "task " ++ decimal (task_of e) ++ codes " can't do this on phaser " ++ decimal p ++ codes ": " ++ refusal_words r
event_text p e why.HadToWait o = wait_text p e o
event_text p e why.ClaimsInstead o =
    codes "task " ++ decimal (task_of e) ++ codes " had a single to claim, and couldn't pass"
event_text p e why.PassesInstead o = codes "task " ++ decimal (task_of e) ++ codes " had no single to claim"
event_text p e (why.SawOther x) o = (codes "task " ++ decimal (task_of e) ++ codes " would have seen ") ++ seen_text x
event_text p e why.Memory o = codes "out of memory"
event_text p e why.Over o = codes "an event before it was refused"

-- ---- a line

-- why a line isn't accepted
abbrev pub reason_text : Reason → Owing → List ℕ
reason_text NoHeader o = codes "this isn't the header {\"version\":2}"
reason_text NoEvent o =
    codes "this is not an event: it is cut off, isn't JSON, or has an unknown word, a number out of range, or the wrong number of items"
reason_text TooLong o = codes "this line has more than 65,536 bytes"
reason_text (Ticket t) o = codes "ticket " ++ decimal t ++ codes " isn't greater than that of the line before"
reason_text (Event e r) o = event_text e.phaser e.event r o

-- the second line on standard error: why line n isn't accepted
abbrev pub why_text : ℕ → Reason → Owing → List ℕ
why_text n r o = ((codes "line " ++ decimal n ++ codes ": ") ++ reason_text r o) ++ codes "\n"
