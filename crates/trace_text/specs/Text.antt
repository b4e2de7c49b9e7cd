-- The text of a trace, byte for byte: the text of a JSON value, with no blank and the keys of each object in order.
use Rattle.std.specs.Prelude.{ℕ, ℤ, pos, negsuc, ◌-◌, ◌^◌, ◌&&◌, ◌||◌, not, int_lt, List, [], ◌∷◌, map, length, Bool, true, false, nat_le, nat_lt, Option, Some, None, is_some, codes}
use Rattle.std.specs.List.{list_all, list_any}
use Rattle.serde_json.specs.Data.{Data, null, number, string, array, object, no_members, member, unsigned}
use Rattle.serde_json.specs.Find.{of_integer}
use Rattle.serde_json.specs.View.{items_of}
use Rattle.serde_json.specs.Written.{compact_text, items_text}
use Rattle.phase_modes.specs.declared.reg.Mode.{Mode}
use Rattle.phase_modes.specs.declared.limits.Limits.{Limits}
use Rattle.phase_modes.specs.declared.phased.Pair.{Pair}
use Rattle.phase_modes.specs.Mode.{name_of}
use Rattle.phase_model.specs.declared.op.Op.{Op}
use Rattle.phase_model.specs.Ops as operators
use Rattle.phase_model.specs.declared.terms.Terms.{Terms}
use Rattle.phase_model.specs.declared.op.Look.{Look}
use Rattle.phase_model.specs.declared.op.Look.TheVariants.{Value, Nothing}
use Rattle.finish_core.specs.declared.event.FinishEvent.{FinishEvent}
use Rattle.finish_core.specs.declared.event.FinishEvent.TheVariants.{Opened, Spawned, Ended, Shut}
use Rattle.world_model.specs.declared.event.Begun.{Begun}
use Rattle.world_model.specs.declared.event.Begun.TheVariants as begun
use Rattle.world_model.specs.declared.event.Tried.{Tried}
use Rattle.world_model.specs.declared.event.Tried.TheVariants as tried
use Rattle.trace_model.specs.declared.event.TracedStep.{TracedStep}
use Rattle.trace_model.specs.declared.event.TracedStep.TheVariants as step
use Rattle.trace_model.specs.declared.event.TracedEvent.{TracedEvent}
use Rattle.trace_model.specs.declared.event.TracedEvent.TheVariants.{Phaser, Finish, Begin, Refuse, Fail}
use Rattle.trace_text.specs.Form.{is_refusal}
use Rattle.trace_model.specs.Run.{Run}
use Rattle.trace_text.specs.declared.version.Version.{Version}
use Rattle.trace_text.specs.declared.version.Version.TheVariants.{First, Second}

-- ---- as JSON

-- a list of these
abbrev pub list : List Data → Data
list ds = array (items_of ds)

-- the text of all items of a list but its first: each after a comma, and the closing bracket
abbrev pub rest_text : List Data → List ℕ
rest_text ds = items_text true (items_of ds)

-- a whole number
abbrev pub whole : ℕ → Data
whole n = number (unsigned n)

-- a whole number with a sign
abbrev pub signed : ℤ → Data
signed z = number (of_integer z)

-- a mode, by its name
abbrev pub mode_data : Mode → Data
mode_data m = string (name_of m)

-- an operator, by its name
abbrev pub op_data : Op → Data
op_data op = string (operators.name_of op)

-- the operators of a phaser
abbrev pub ops_data : List Op → Data
ops_data ops = list (map op_data ops)

-- what a look saw: a number, or null for nothing
abbrev pub seen_data : Look ℤ → Data
seen_data (Value z) = signed z
seen_data Nothing = null

-- the bound of a phaser, or null for none
abbrev pub bound_data : Option ℕ → Data
bound_data None = null
bound_data (Some b) = whole b

-- what a version says of the bound: version 1 nothing
abbrev pub bound_items : Version → Option ℕ → List Data
bound_items First b = []
bound_items Second b = bound_data b ∷ []

-- what a phaser is made with: its maker's mode, its operators, and its bound
abbrev pub terms_items : Version → Mode → Terms → List Data
terms_items v m terms = mode_data m ∷ ops_data terms.ops ∷ bound_items v terms.bound

-- a step on a phaser: its name, and what follows
abbrev pub step_items : Version → TracedStep → List Data
step_items v (step.Make t m terms) = string (codes "make") ∷ whole t ∷ terms_items v m terms
step_items v (step.Reg q t m) = string (codes "reg") ∷ whole q ∷ whole t ∷ mode_data m ∷ []
step_items v (step.Sig t None) = string (codes "sig") ∷ whole t ∷ []
step_items v (step.Sig t (Some n)) = string (codes "sig") ∷ whole t ∷ whole n ∷ []
step_items v (step.Claim t) = string (codes "claim") ∷ whole t ∷ []
step_items v (step.Did t) = string (codes "did") ∷ whole t ∷ []
step_items v (step.Pass t) = string (codes "pass") ∷ whole t ∷ []
step_items v (step.Send t a x) = string (codes "send") ∷ whole t ∷ whole a ∷ signed x ∷ []
step_items v (step.Look t a x) = string (codes "look") ∷ whole t ∷ whole a ∷ seen_data x ∷ []
step_items v (step.Drop t) = string (codes "drop") ∷ whole t ∷ []

-- an event of a finish: its name, and what follows
abbrev pub finish_items : FinishEvent → List Data
finish_items (Opened t) = string (codes "opened") ∷ whole t ∷ []
finish_items (Spawned t) = string (codes "spawned") ∷ whole t ∷ []
finish_items (Ended t) = string (codes "ended") ∷ whole t ∷ []
finish_items Shut = string (codes "shut") ∷ []

-- a phaser that a spawn names, and the child's mode on it
abbrev pub pair_data : Pair → Data
pair_data p = list (whole p.phaser ∷ mode_data p.mode ∷ [])

-- all phasers that a spawn names
abbrev pub pairs_data : List Pair → Data
pairs_data ps = list (map pair_data ps)

-- an act that is begun: its name, and what follows
abbrev pub begun_items : Begun → List Data
begun_items (begun.Async child pairs) = string (codes "async") ∷ whole child ∷ pairs_data pairs ∷ []
begun_items begun.Signal = string (codes "signal") ∷ []
begun_items begun.Wait = string (codes "wait") ∷ []
begun_items begun.Next = string (codes "next") ∷ []
begun_items (begun.NextSingle n) = string (codes "single") ∷ whole n ∷ []
begun_items begun.Shut = string (codes "shut") ∷ []
begun_items begun.End = string (codes "end") ∷ []

-- any act: its name, and what follows
abbrev pub tried_items : Version → Tried → List Data
tried_items v (tried.Begun act) = begun_items act
tried_items v (tried.New ph m terms) = string (codes "new") ∷ whole ph ∷ terms_items v m terms
tried_items v (tried.Open f) = string (codes "open") ∷ whole f ∷ []
tried_items v (tried.Send ph a x) = string (codes "send") ∷ whole ph ∷ whole a ∷ signed x ∷ []
tried_items v (tried.Look ph a) = string (codes "look") ∷ whole ph ∷ whole a ∷ []

-- an event, without its ticket
abbrev pub event_items : Version → TracedEvent → List Data
event_items v (Phaser ph s) = string (codes "p") ∷ whole ph ∷ step_items v s
event_items v (Finish f e) = string (codes "f") ∷ whole f ∷ finish_items e
event_items v (Begin t act) =
    string (codes "t") ∷ whole t ∷ string (codes "begin") ∷ list (begun_items act) ∷ []
event_items v (Refuse t act n) =
    string (codes "t") ∷ whole t ∷ string (codes "refuse") ∷ list (tried_items v act) ∷ whole n ∷ []
event_items v (Fail t n) = string (codes "t") ∷ whole t ∷ string (codes "fail") ∷ whole n ∷ []

-- an event with its ticket in front
abbrev pub entry_data : Version → ℕ × TracedEvent → Data
entry_data v e = list (whole e.0 ∷ event_items v e.1)

-- all six limits
abbrev pub limits_data : Limits → Data
limits_data l = object
    (member (codes "acts") (whole l.acts)
    (member (codes "finishes") (whole l.finishes)
    (member (codes "history") (whole l.history)
    (member (codes "phasers") (whole l.phasers)
    (member (codes "regs") (whole l.regs)
    (member (codes "tasks") (whole l.tasks) no_members))))))

-- the number of a version
abbrev pub number_of : Version → ℕ
number_of First = 1
number_of Second = 2

-- a trace in a version
unfoldable pub trace_data : Version → Run → Data
trace_data v r = object
    (member (codes "events") (list (map (entry_data v) r.events))
    (member (codes "limits") (limits_data r.limits)
    (member (codes "version") (whole (number_of v)) no_members)))

-- the text of a trace, in version 2
abbrev pub trace_text : Run → List ℕ
trace_text r = compact_text (trace_data Second r)

-- its text in version 1, which is read but not written
abbrev pub older_text : Run → List ℕ
older_text r = compact_text (trace_data First r)

-- ---- which traces version 1 says: nothing in it would say a bound

-- the event makes a phaser that is bounded, or would have
abbrev pub has_bound : TracedEvent → Bool
has_bound (Phaser ph (step.Make t m terms)) = is_some terms.bound
has_bound (Refuse t (tried.New ph m terms) n) = is_some terms.bound
has_bound _ = false

-- one of its events does
abbrev pub has_bounds : Run → Bool
has_bounds r = list_any (λ e. has_bound e.1) r.events

-- ---- which events have a form: their numbers are in range, and their lists are short enough

-- the number of a task, a phaser, a finish or a single
abbrev pub is_number : ℕ → Bool
is_number n = nat_le n (2 ^ 32 - 1)

-- an accumulator's index
abbrev pub is_index : ℕ → Bool
is_index a = nat_le a 255

-- a value that is sent: it fits 32 bits with a sign
abbrev pub is_value : ℤ → Bool
is_value z = not (int_lt z (negsuc (2 ^ 31 - 1)) || int_lt (pos (2 ^ 31 - 1)) z)

-- it fits 64 bits with a sign
abbrev pub is_wide : ℤ → Bool
is_wide (pos n) = nat_lt n (2 ^ 63)
is_wide (negsuc n) = nat_lt n (2 ^ 63)

-- a sum may be wider than a value
abbrev pub seen_has_form : Look ℤ → Bool
seen_has_form (Value z) = is_wide z
seen_has_form Nothing = true

-- a bound is 1 to 65,536, if there is one
abbrev pub bound_has_form : Option ℕ → Bool
bound_has_form None = true
bound_has_form (Some b) = nat_le 1 b && nat_le b 65536

-- a phaser has at most four accumulators, and its bound is in range
abbrev pub terms_have_form : Terms → Bool
terms_have_form terms = nat_le (length terms.ops) 4 && bound_has_form terms.bound

-- the numbers of a step
abbrev pub step_has_form : TracedStep → Bool
step_has_form (step.Make t m terms) = is_number t && terms_have_form terms
step_has_form (step.Reg q t m) = is_number q && is_number t
step_has_form (step.Sig t None) = is_number t
step_has_form (step.Sig t (Some n)) = is_number t && is_number n
step_has_form (step.Claim t) = is_number t
step_has_form (step.Did t) = is_number t
step_has_form (step.Pass t) = is_number t
step_has_form (step.Send t a v) = is_number t && is_index a && is_value v
step_has_form (step.Look t a x) = is_number t && is_index a && seen_has_form x
step_has_form (step.Drop t) = is_number t

-- those of an event of a finish
abbrev pub finish_has_form : FinishEvent → Bool
finish_has_form (Opened t) = is_number t
finish_has_form (Spawned t) = is_number t
finish_has_form (Ended t) = is_number t
finish_has_form Shut = true

-- those of an act that is begun
abbrev pub begun_has_form : Begun → Bool
begun_has_form (begun.Async child pairs) =
    is_number child && nat_le (length pairs) 16 && list_all (λ p. is_number p.phaser) pairs
begun_has_form begun.Signal = true
begun_has_form begun.Wait = true
begun_has_form begun.Next = true
begun_has_form (begun.NextSingle n) = is_number n
begun_has_form begun.Shut = true
begun_has_form begun.End = true

-- those of any act
abbrev pub tried_has_form : Tried → Bool
tried_has_form (tried.Begun act) = begun_has_form act
tried_has_form (tried.New ph m terms) = is_number ph && terms_have_form terms
tried_has_form (tried.Open f) = is_number f
tried_has_form (tried.Send ph a v) = is_number ph && is_index a && is_value v
tried_has_form (tried.Look ph a) = is_number ph && is_index a

-- those of an event
abbrev pub event_has_form : TracedEvent → Bool
event_has_form (Phaser ph s) = is_number ph && step_has_form s
event_has_form (Finish f e) = is_number f && finish_has_form e
event_has_form (Begin t act) = is_number t && begun_has_form act
event_has_form (Refuse t act n) = is_number t && tried_has_form act && is_refusal n
event_has_form (Fail t n) = is_number t && is_refusal n

-- those of an event with its ticket, of 64 bits
abbrev pub entry_has_form : ℕ × TracedEvent → Bool
entry_has_form e = nat_lt e.0 (2 ^ 64) && event_has_form e.1

-- each event has a form
abbrev pub has_form : Run → Bool
has_form r = list_all entry_has_form r.events
