-- The trace that a JSON value spells, or the place of its first fault.
use Rattle.std.specs.Prelude.{ℕ, ◌+◌, ◌==◌, ◌&&◌, not, List, [], ◌∷◌, Bool, nat_le, if◌then◌else◌, Option, Some, None, option_map, Result, Ok, Err, codes, ℤ}
use Rattle.std.specs.Str.{bytes_eq}
use Rattle.serde_json.specs.Data.{Data, null, boolean, number, string, array, object, Items}
use Rattle.serde_json.specs.Find.{get, at, as_array}
use Rattle.phase_modes.specs.declared.limits.Limits.{Limits}
use Rattle.phase_modes.specs.declared.phased.Pair.{Pair}
use Rattle.phase_model.specs.declared.op.Look.{Look}
use Rattle.phase_model.specs.declared.op.Look.TheVariants.{Value, Nothing}
use Rattle.finish_core.specs.declared.event.FinishEvent.{FinishEvent}
use Rattle.finish_core.specs.declared.event.FinishEvent.TheVariants.{Opened, Spawned, Ended, Shut}
use Rattle.world_model.specs.declared.event.Begun.{Begun}
use Rattle.world_model.specs.declared.event.Begun.TheVariants as begun
use Rattle.world_model.specs.declared.event.Tried.{Tried}
use Rattle.world_model.specs.declared.event.Tried.TheVariants as tried
use Rattle.trace_model.specs.declared.event.TracedStep.{TracedStep}
use Rattle.trace_model.specs.declared.event.TracedStep.TheVariants as step
use Rattle.trace_model.specs.declared.event.TracedEvent.{TracedEvent}
use Rattle.trace_model.specs.declared.event.TracedEvent.TheVariants.{Phaser, Finish, Begin, Refuse, Fail}
use Rattle.job_script.specs.Words.{◌>>=◌, whole_in, signed_in, bound_in, ends_at, word_at, number_at, accumulator_at, value_at, mode_at, all_in, at_most, numbered_in, ops_at, has_only, limits_of}
use Rattle.trace_model.specs.Run.{Run}
use Rattle.trace_text.specs.declared.reading.log.TheConstants.{REFUSALS}
use Rattle.trace_text.specs.declared.version.Version.{Version}
use Rattle.trace_text.specs.declared.version.Version.TheVariants.{First, Second}

-- ---- the bound of a phaser

-- a bound, or null for none
abbrev pub bound_or_null : Data → Option (Option ℕ)
bound_or_null null = Some None
bound_or_null (boolean b) = None
bound_or_null (number n) = option_map Some (bound_in (number n))
bound_or_null (string s) = None
bound_or_null (array ds) = None
bound_or_null (object ms) = None

-- the bound that ends a list, after n items; in version 1 nothing follows them, and there is no bound
unfoldable pub bound_after : Version → ℕ → Data → Option (Option ℕ)
bound_after First n d = if not (ends_at n d) then None else Some None
bound_after Second n d = if not (ends_at (n + 1) d) then None else (at n d >>= bound_or_null)

-- ---- steps on a phaser; the name of the step is the item 3, after the ticket, "p" and the phaser

-- "make", t, mode, [ops], and the bound in version 2
unfoldable pub make_in : Version → Data → Option TracedStep
make_in v d =
    bound_after v 7 d >>= λ b.
    number_at 4 d >>= λ t. mode_at 5 d >>= λ m. ops_at 6 d >>= λ ops.
    Some (step.Make t m (record { ops = ops; bound = b }))

-- "reg", q, t, mode
unfoldable pub reg_in : Data → Option TracedStep
reg_in d =
    if not (ends_at 7 d) then None
    else (number_at 4 d >>= λ q. number_at 5 d >>= λ t. mode_at 6 d >>= λ m. Some (step.Reg q t m))

-- "sig", t, or "sig", t, n
unfoldable pub sig_in : Data → Option TracedStep
sig_in d =
    if not (ends_at 6 d) then None
    else (number_at 4 d >>= λ t.
    if ends_at 5 d then Some (step.Sig t None)
    else (number_at 5 d >>= λ n. Some (step.Sig t (Some n))))

-- a step that has its task alone
unfoldable pub task_step_in : (ℕ → TracedStep) → Data → Option TracedStep
task_step_in made d = if not (ends_at 5 d) then None else (number_at 4 d >>= λ t. Some (made t))

-- "send", t, a, v
unfoldable pub send_in : Data → Option TracedStep
send_in d =
    if not (ends_at 7 d) then None
    else (number_at 4 d >>= λ t. accumulator_at 5 d >>= λ a. value_at 6 d >>= λ v. Some (step.Send t a v))

-- what was seen: a number, or null for nothing
abbrev pub seen_in : Data → Option (Look ℤ)
seen_in null = Some Nothing
seen_in (boolean b) = None
seen_in (number n) = option_map Value (signed_in (number n))
seen_in (string s) = None
seen_in (array ds) = None
seen_in (object ms) = None

-- "look", t, a, v
unfoldable pub look_in : Data → Option TracedStep
look_in d =
    if not (ends_at 7 d) then None
    else (number_at 4 d >>= λ t. accumulator_at 5 d >>= λ a.
    at 6 d >>= seen_in >>= λ x. Some (step.Look t a x))

-- a step on a phaser, by its name
unfoldable pub step_in : Version → Data → Option TracedStep
step_in v d = word_at 3 d >>= λ name.
    if bytes_eq name (codes "make") then make_in v d
    else (if bytes_eq name (codes "reg") then reg_in d
    else (if bytes_eq name (codes "sig") then sig_in d
    else (if bytes_eq name (codes "claim") then task_step_in step.Claim d
    else (if bytes_eq name (codes "did") then task_step_in step.Did d
    else (if bytes_eq name (codes "pass") then task_step_in step.Pass d
    else (if bytes_eq name (codes "send") then send_in d
    else (if bytes_eq name (codes "look") then look_in d
    else (if bytes_eq name (codes "drop") then task_step_in step.Drop d
    else None))))))))

-- ---- events of a finish; the name of the event is the item 3

-- the task of an event that has nothing else
abbrev pub only_task_in : Data → Option ℕ
only_task_in d = if not (ends_at 5 d) then None else number_at 4 d

-- an event of a finish, by its name
unfoldable pub finish_event_in : Data → Option FinishEvent
finish_event_in d = word_at 3 d >>= λ name.
    if bytes_eq name (codes "opened") then (only_task_in d >>= λ t. Some (Opened t))
    else (if bytes_eq name (codes "spawned") then (only_task_in d >>= λ t. Some (Spawned t))
    else (if bytes_eq name (codes "ended") then (only_task_in d >>= λ t. Some (Ended t))
    else (if bytes_eq name (codes "shut") then (if ends_at 4 d then Some Shut else None)
    else None)))

-- ---- acts, each a list of its own whose first item is its name

-- [ph, mode]
unfoldable pub pair_in : Data → Option Pair
pair_in d =
    if not (ends_at 2 d) then None
    else (number_at 0 d >>= λ ph. mode_at 1 d >>= λ m. Some (record { phaser = ph; mode = m }))

-- a list of at most sixteen pairs
abbrev pub pairs_in : Data → Option (List Pair)
pairs_in d = as_array d >>= λ items. at_most 16 (all_in pair_in items)

-- ["async", child, [pairs]]
unfoldable pub async_in : Data → Option Begun
async_in d =
    if not (ends_at 3 d) then None
    else (number_at 1 d >>= λ child. at 2 d >>= pairs_in >>= λ pairs. Some (begun.Async child pairs))

-- ["single", n]
unfoldable pub single_in : Data → Option Begun
single_in d = if not (ends_at 2 d) then None else (number_at 1 d >>= λ n. Some (begun.NextSingle n))

-- an act that is its name alone
unfoldable pub bare_act_in : Begun → Data → Option Begun
bare_act_in act d = if ends_at 1 d then Some act else None

-- an act that takes more than one event, by its name
unfoldable pub begun_in : Data → Option Begun
begun_in d = word_at 0 d >>= λ name.
    if bytes_eq name (codes "async") then async_in d
    else (if bytes_eq name (codes "signal") then bare_act_in begun.Signal d
    else (if bytes_eq name (codes "wait") then bare_act_in begun.Wait d
    else (if bytes_eq name (codes "next") then bare_act_in begun.Next d
    else (if bytes_eq name (codes "single") then single_in d
    else (if bytes_eq name (codes "shut") then bare_act_in begun.Shut d
    else (if bytes_eq name (codes "end") then bare_act_in begun.End d
    else None))))))

-- ["new", ph, mode, [ops]], and the bound in version 2
unfoldable pub new_in : Version → Data → Option Tried
new_in v d =
    bound_after v 4 d >>= λ b.
    number_at 1 d >>= λ ph. mode_at 2 d >>= λ m. ops_at 3 d >>= λ ops.
    Some (tried.New ph m (record { ops = ops; bound = b }))

-- ["open", f]
unfoldable pub open_in : Data → Option Tried
open_in d = if not (ends_at 2 d) then None else (number_at 1 d >>= λ f. Some (tried.Open f))

-- ["send", ph, a, v]
unfoldable pub send_act_in : Data → Option Tried
send_act_in d =
    if not (ends_at 4 d) then None
    else (number_at 1 d >>= λ ph. accumulator_at 2 d >>= λ a. value_at 3 d >>= λ v. Some (tried.Send ph a v))

-- ["look", ph, a]
unfoldable pub look_act_in : Data → Option Tried
look_act_in d =
    if not (ends_at 3 d) then None
    else (number_at 1 d >>= λ ph. accumulator_at 2 d >>= λ a. Some (tried.Look ph a))

-- any act, by its name
unfoldable pub tried_in : Version → Data → Option Tried
tried_in v d = word_at 0 d >>= λ name.
    if bytes_eq name (codes "new") then new_in v d
    else (if bytes_eq name (codes "open") then open_in d
    else (if bytes_eq name (codes "send") then send_act_in d
    else (if bytes_eq name (codes "look") then look_act_in d
    else (begun_in d >>= λ act. Some (tried.Begun act)))))

-- ---- entries of a task's log; the name of the entry is the item 3

-- the number is one of the refusals
abbrev pub is_refusal : ℕ → Bool
is_refusal n = nat_le 1 n && nat_le n REFUSALS

-- the number of a refusal at an index of a list
abbrev pub refusal_at : ℕ → Data → Option ℕ
refusal_at i d = at i d >>= whole_in >>= λ n. if is_refusal n then Some n else None

-- "begin", act
unfoldable pub begin_in : ℕ → Data → Option TracedEvent
begin_in t d = if not (ends_at 5 d) then None else (at 4 d >>= begun_in >>= λ act. Some (Begin t act))

-- "refuse", act, number
unfoldable pub refuse_in : Version → ℕ → Data → Option TracedEvent
refuse_in v t d =
    if not (ends_at 6 d) then None
    else (at 4 d >>= tried_in v >>= λ act. refusal_at 5 d >>= λ n. Some (Refuse t act n))

-- "fail", number
unfoldable pub fail_in : ℕ → Data → Option TracedEvent
fail_in t d = if not (ends_at 5 d) then None else (refusal_at 4 d >>= λ n. Some (Fail t n))

-- an entry of the task's log, by its name
unfoldable pub log_entry_in : Version → ℕ → Data → Option TracedEvent
log_entry_in v t d = word_at 3 d >>= λ name.
    if bytes_eq name (codes "begin") then begin_in t d
    else (if bytes_eq name (codes "refuse") then refuse_in v t d
    else (if bytes_eq name (codes "fail") then fail_in t d
    else None))

-- ---- events with their tickets

-- an event, by what its number is of
unfoldable pub event_in : Version → Data → Option TracedEvent
event_in v d = word_at 1 d >>= λ kind. number_at 2 d >>= λ n.
    if bytes_eq kind (codes "p") then (step_in v d >>= λ s. Some (Phaser n s))
    else (if bytes_eq kind (codes "f") then (finish_event_in d >>= λ e. Some (Finish n e))
    else (if bytes_eq kind (codes "t") then log_entry_in v n d
    else None))

-- a ticket and its event
abbrev pub entry_in : Version → Data → Option (ℕ × TracedEvent)
entry_in v d = at 0 d >>= whole_in >>= λ ticket. event_in v d >>= λ e. Some (ticket, e)

-- ---- the outer object

-- the version of that number: only 1 and 2 are read
abbrev pub version_numbered : ℕ → Option Version
version_numbered n = if n == 1 then Some First else (if n == 2 then Some Second else None)

-- the version, if it is one that is read
abbrev pub version_in : Data → Option Version
version_in d = whole_in d >>= version_numbered

-- the limits, the version and the list of the events, if nothing is wrong outside the events
unfoldable pub outer_in : Data → Option (Limits × Version × Items)
outer_in d =
    if not (has_only (codes "events" ∷ codes "limits" ∷ codes "version" ∷ []) d) then None
    else (limits_of d >>= λ limits.
    get (codes "version") d >>= version_in >>= λ version.
    get (codes "events") d >>= as_array >>= λ events. Some (limits, version, events))

-- with these limits the events are a trace
abbrev pub with_limits : Limits → Result (List (ℕ × TracedEvent)) ℕ → Result Run ℕ
with_limits limits (Ok events) = Ok (record { limits = limits; events = events })
with_limits limits (Err p) = Err p

-- the trace of these limits, and of the events in that version
abbrev pub form_of_outer : Option (Limits × Version × Items) → Result Run ℕ
form_of_outer None = Err 0
form_of_outer (Some o) = with_limits o.0 (numbered_in (entry_in o.1) 1 o.2)

-- the trace that a JSON value spells, or the place of its first fault
abbrev pub form : Data → Result Run ℕ
form d = form_of_outer (outer_in d)

-- the trace that a text spells; what is no JSON is at fault at 0
abbrev pub form_of : Option Data → Result Run ℕ
form_of None = Err 0
form_of (Some d) = form d
