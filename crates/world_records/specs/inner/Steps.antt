-- What a world answers and how it changes, by its state alone. That this is what the history asks for is proved apart, in proofs/.
use Rattle.std.specs.Prelude.{ℕ, ◌+◌, Bool, true, false, ◌&&◌, ◌==◌, not, min, if◌then◌else◌, List, [], ◌∷◌, ◌++◌, filter, set, Option, Some, None, Result, Ok, Err}
use Rattle.phase_modes.specs.Lists.{is_empty}
use Rattle.phase_modes.specs.declared.refusal.Refusal.{Refusal}
use Rattle.phase_modes.specs.declared.refusal.Refusal.TheVariants.{NotNow}
use Rattle.phase_modes.specs.Refusal.{first_refusal}
use Rattle.phase_model.specs.declared.history.Event.TheVariants.{Claim as Claimed, Did as Reported}
use Rattle.phase_model.specs.Rules.{Story, is_permitted}
use Rattle.phase_model.specs.declared.answer.Passing.{Passing}
use Rattle.phase_model.specs.declared.answer.Passing.TheVariants.{Passed, Claimed as Claims, NotYet as Waits}
use Rattle.phase_model.specs.declared.answer.Signalling.{Signalling}
use Rattle.phase_model.specs.declared.answer.Signalling.TheVariants.{Signalled, NotYet as Holds}
use Rattle.phase_model.specs.Answers.{signal_result, pass_result}
use Rattle.phase_model.specs.Replies as phaser
use Rattle.phase_model.specs.declared.call.Call.{Call}
use Rattle.phase_model.specs.Replies.{after, done_result}
use Rattle.phase_model.specs.declared.call.Call.TheVariants.{Signal as signal, Pass as pass, SingleDone as single_done}
use Rattle.world_model.specs.Continuing.{same_number}
use Rattle.world_model.specs.ActConditions.{count_condition, opening_conditions}
use Rattle.world_records.specs.declared.plan.Plan.{Plan}
use Rattle.world_records.specs.declared.plan.Plan.TheVariants as plan
use Rattle.world_model.specs.declared.reply.Reply.{Reply}
use Rattle.world_model.specs.declared.reply.Reply.TheVariants.{Done, Phase, NotYet}
use Rattle.world_records.specs.TaskState.{TaskState}
use Rattle.world_records.specs.WorldState.{WorldState}
use Rattle.world_records.specs.Kept.{task_at, story_at, finish_at, is_ready, past_in}
use Rattle.world_records.specs.inner.Facts.{facts, owes}
use Rattle.finish_core.specs.declared.event.FinishEvent.TheVariants.{Opened}
use Rattle.finish_core.specs.Replies as finish
use Rattle.finish_core.specs.Replies.{reply as answer}

-- the conditions of an act before it is looked at for itself: used is whether the number that it wants to give is in use, counted whether it is a counted act
abbrev pub first_conditions : WorldState → ℕ → Bool → Bool → List (Refusal × Bool)
first_conditions s t used counted =
    (NotNow, is_ready (task_at s t))
    ∷ (NotNow, not used)
    ∷ count_condition s.limits (facts s t) counted
    ∷ []

abbrev pub done_unless : Option Refusal → Result Reply Refusal
done_unless None = Ok Done
done_unless (Some r) = Err r

-- the state after an act that was not refused
abbrev pub unless_refused : Option Refusal → WorldState → WorldState → WorldState
unless_refused None old new = new
unless_refused (Some r) old new = old

-- a task goes on to the passes of a turn on these phasers: without phasers the turn is ended
abbrev pub passing_on : List ℕ → TaskState → TaskState
passing_on [] k = record k { plan = plan.Idle; left = []; clock = min (k.clock + 1) 4294967295 }
passing_on (n ∷ ns) k = record k { plan = plan.Turning; left = n ∷ ns }

abbrev pub passing : TaskState → TaskState
passing k = passing_on k.phasers k

-- a turn is begun, whose signals are left
abbrev pub turn_begun : Option ℕ → TaskState → TaskState
turn_begun x k =
    let counted : TaskState = record k { acts = min (k.acts + 1) 4294967295 } in
    if is_empty k.left then passing counted else record counted { plan = plan.Signalling x true }

-- the task's line with the phasers on which it owes a signal
abbrev pub owing : WorldState → ℕ → TaskState
owing s t = record (task_at s t) { left = filter (λ n. owes t (past_in s.phasers n)) (task_at s t).phasers }

abbrev pub with_task : WorldState → ℕ → TaskState → WorldState
with_task s t k = record s { tasks = set s.tasks t k }

-- the state after a call that phaser n has done
abbrev pub phaser_called : WorldState → ℕ → Call → WorldState
phaser_called s n c =
    record s { phasers = set s.phasers n (after (story_at s n) (phaser.reply (story_at s n) c)) }

-- the first number that is left is this one
abbrev pub is_first : List ℕ → ℕ → Bool
is_first [] n = false
is_first (m ∷ ms) n = m == n

abbrev pub wants_signal : Plan → List ℕ → ℕ → Option ℕ → Bool
wants_signal (plan.Signalling y turn) left n x = is_first left n && same_number y x
wants_signal _ left n x = false

-- the task's next event is to signal with this number on phaser n
abbrev pub is_to_signal : TaskState → ℕ → Option ℕ → Bool
is_to_signal k n x = wants_signal k.plan k.left n x

-- after a signal: the next one, or if it was the last one, the passes of a turn or nothing
abbrev pub to_passes : List ℕ → TaskState → TaskState
to_passes [] k = record k { plan = plan.Idle; left = [] }
to_passes (n ∷ ns) k = record k { plan = plan.Turning; left = n ∷ ns }

abbrev pub after_signals_on : Bool → List ℕ → TaskState → TaskState
after_signals_on true ns k = to_passes ns k
after_signals_on false ns k = record k { plan = plan.Idle; left = [] }

abbrev pub is_turn_plan : Plan → Bool
is_turn_plan (plan.Signalling x turn) = turn
is_turn_plan _ = false

abbrev pub note_signal : Plan → List ℕ → TaskState → TaskState
note_signal p (m ∷ n ∷ ns) k = record k { left = n ∷ ns }
note_signal p (m ∷ []) k = after_signals_on (is_turn_plan p) k.phasers k
note_signal p [] k = after_signals_on (is_turn_plan p) k.phasers k

abbrev pub signal_noted : TaskState → TaskState
signal_noted k = note_signal k.plan k.left k

-- a signal of an act under way
abbrev pub done_by : Result (Unit {0}) Refusal → Result Reply Refusal
done_by (Ok u) = Ok Done
done_by (Err r) = Err r

abbrev pub state_by : Result (Unit {0}) Refusal → WorldState → WorldState → WorldState
state_by (Ok u) old new = new
state_by (Err r) old new = old

-- what the phaser says to a signal
abbrev pub signalled_on : WorldState → ℕ → ℕ → Option ℕ → Result Signalling Refusal
signalled_on s n t x = signal_result (phaser.reply (story_at s n) (signal t x))

-- the reply of the world to a signal of which the phaser says this
abbrev pub reply_by_signal : Result Signalling Refusal → Result Reply Refusal
reply_by_signal (Ok Signalled) = Ok Done
reply_by_signal (Ok Holds) = Ok NotYet
reply_by_signal (Err r) = Err r

-- the state after it
abbrev pub state_by_signal : Result Signalling Refusal → WorldState → WorldState → WorldState
state_by_signal (Ok Signalled) old new = new
state_by_signal (Ok Holds) old new = old
state_by_signal (Err r) old new = old

abbrev pub signal_outcome : WorldState → ℕ → ℕ → Option ℕ → Result Signalling Refusal
signal_outcome s n t x = if is_to_signal (task_at s t) n x then signalled_on s n t x else Err NotNow

abbrev pub signal_answer : WorldState → ℕ → ℕ → Option ℕ → Result Reply Refusal
signal_answer s n t x = reply_by_signal (signal_outcome s n t x)

abbrev pub signal_state : WorldState → ℕ → ℕ → Option ℕ → WorldState
signal_state s n t x = state_by_signal (signal_outcome s n t x) s
    (with_task (phaser_called s n (signal t x)) t (signal_noted (task_at s t)))

-- the task's next event is to pass phaser n, the single aside
abbrev pub wants_pass : Plan → List ℕ → ℕ → Bool
wants_pass plan.Turning left n = is_first left n
wants_pass _ left n = false

abbrev pub is_to_pass : TaskState → ℕ → Bool
is_to_pass k n = wants_pass k.plan k.left n

abbrev pub may_claim : Story → ℕ → Bool
may_claim s t = is_permitted s.limits s.terms s.past (Claimed t)

abbrev pub may_report : Story → ℕ → Bool
may_report s t = is_permitted s.limits s.terms s.past (Reported t)

-- a pass, a claim and a report of an act under way are asked of the phaser if they are what comes next
abbrev pub pass_asked : WorldState → ℕ → ℕ → Bool
pass_asked s n t =
    is_to_pass (task_at s t) n && not (may_claim (story_at s n) t) && not (may_report (story_at s n) t)

abbrev pub claim_asked : WorldState → ℕ → ℕ → Bool
claim_asked s n t = is_to_pass (task_at s t) n && may_claim (story_at s n) t

abbrev pub report_asked : WorldState → ℕ → ℕ → Bool
report_asked s n t =
    is_to_pass (task_at s t) n && not (may_claim (story_at s n) t) && may_report (story_at s n) t

-- what the phaser says to a pass
abbrev pub passed_on : WorldState → ℕ → ℕ → Result (Passing ℕ) Refusal
passed_on s n t = pass_result (story_at s n).past (phaser.reply (story_at s n) (pass t))

-- the reply of the world to a pass or a claim of which the phaser says this
abbrev pub reply_by_pass : Result (Passing ℕ) Refusal → Result Reply Refusal
reply_by_pass (Ok (Passed p)) = Ok (Phase p)
reply_by_pass (Ok (Claims i)) = Ok Done
reply_by_pass (Ok Waits) = Ok NotYet
reply_by_pass (Err r) = Err r

-- after a pass: the next one, or if it was the last one, the turn is ended
abbrev pub note_pass : List ℕ → TaskState → TaskState
note_pass (m ∷ n ∷ ns) k = record k { left = n ∷ ns }
note_pass (m ∷ []) k = record k { plan = plan.Idle; left = []; clock = min (k.clock + 1) 4294967295 }
note_pass [] k = record k { plan = plan.Idle; left = []; clock = min (k.clock + 1) 4294967295 }

abbrev pub pass_noted : TaskState → TaskState
pass_noted k = note_pass k.left k

-- the state after a pass of which the phaser says this: old, with the call alone, and with the turn noted too
abbrev pub state_by_pass : Result (Passing ℕ) Refusal → WorldState → WorldState → WorldState → WorldState
state_by_pass (Ok (Passed p)) old called noted = noted
state_by_pass (Ok (Claims i)) old called noted = called
state_by_pass (Ok Waits) old called noted = old
state_by_pass (Err r) old called noted = old

abbrev pub pass_outcome : WorldState → ℕ → ℕ → Result (Passing ℕ) Refusal
pass_outcome s n t = if pass_asked s n t then passed_on s n t else Err NotNow

abbrev pub pass_answer : WorldState → ℕ → ℕ → Result Reply Refusal
pass_answer s n t = reply_by_pass (pass_outcome s n t)

abbrev pub pass_state : WorldState → ℕ → ℕ → WorldState
pass_state s n t = state_by_pass (pass_outcome s n t) s (phaser_called s n (pass t))
    (with_task (phaser_called s n (pass t)) t (pass_noted (task_at s t)))

-- a claim: the phaser is asked to pass, and the line stays
abbrev pub claim_outcome : WorldState → ℕ → ℕ → Result (Passing ℕ) Refusal
claim_outcome s n t = if claim_asked s n t then passed_on s n t else Err NotNow

abbrev pub claim_answer : WorldState → ℕ → ℕ → Result Reply Refusal
claim_answer s n t = reply_by_pass (claim_outcome s n t)

abbrev pub claim_state : WorldState → ℕ → ℕ → WorldState
claim_state s n t =
    state_by_pass (claim_outcome s n t) s (phaser_called s n (pass t)) (phaser_called s n (pass t))

-- a report that the single is done
abbrev pub report_result : WorldState → ℕ → ℕ → Result (Unit {0}) Refusal
report_result s n t =
    if report_asked s n t then done_result (phaser.reply (story_at s n) (single_done t))
    else Err NotNow

abbrev pub report_answer : WorldState → ℕ → ℕ → Result Reply Refusal
report_answer s n t = done_by (report_result s n t)

abbrev pub report_state : WorldState → ℕ → ℕ → WorldState
report_state s n t = state_by (report_result s n t) s (phaser_called s n (single_done t))

-- the conditions of the opening of finish f
abbrev pub open_conditions : WorldState → ℕ → ℕ → List (Refusal × Bool)
open_conditions s f t =
    first_conditions s t (not (is_empty (finish_at s f).past)) true ++ opening_conditions s.limits f

abbrev pub open_answer : WorldState → ℕ → ℕ → Result Reply Refusal
open_answer s f t = done_unless (first_refusal (open_conditions s f t))

-- the finish is opened, and is the task's innermost one: the one before it is the next outer one
abbrev pub opening : ℕ → TaskState → TaskState
opening f k = record k { innermost = Some f; acts = min (k.acts + 1) 4294967295 }

abbrev pub opened : WorldState → ℕ → ℕ → WorldState
opened s f t = record s {
  finishes = set s.finishes f (finish.after (finish_at s f) (Opened t)
      (answer (finish_at s f).tasks (finish_at s f).past (Opened t)));
  owners = set s.owners f t;
  outers = set s.outers f (task_at s t).innermost;
  tasks = set s.tasks t (opening f (task_at s t));
}

abbrev pub open_state : WorldState → ℕ → ℕ → WorldState
open_state s f t = unless_refused (first_refusal (open_conditions s f t)) s (opened s f t)
