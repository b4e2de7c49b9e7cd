-- The JSON of a trace whose events have a form is plain: its numbers are whole, its strings are ASCII, and it nests little.
use Rattle.std.proofs.Common.{◌≡◌, ℕ, suc, ℤ, pos, negsuc, ◌-◌, ◌^◌, ◌<◌, ◌≤◌, ◌&&◌, true, nat_le, nat_lt, List, [], ◌∷◌, map, length, Option, Some, None, codes, refl, arith}
use Rattle.std.specs.Prelude.{⊤}
use Rattle.std.proofs.lemmas.Bool.{and_parts, leb-true, ltb-true}
use Rattle.std.specs.List.{list_all}
use Rattle.json.proofs.Printed.Utf8.{are_ascii, IsUtf8-are_ascii}
use Rattle.serde_json.specs.Data.{Data, string, object, member, no_members, depth, items_depth}
use Rattle.serde_json.specs.View.{items_of}
use Rattle.phase_modes.specs.declared.limits.Limits.{Limits}
use Rattle.phase_modes.specs.declared.reg.Mode.{Mode}
use Rattle.phase_modes.specs.declared.reg.Mode.TheVariants.{Sig, Wait, SigWait, Single}
use Rattle.phase_modes.specs.declared.phased.Pair.{Pair}
use Rattle.phase_modes.specs.Limits.{limits_fit, is_between}
use Rattle.phase_model.specs.declared.op.Op.{Op}
use Rattle.phase_model.specs.declared.op.Op.TheVariants.{Sum, Least, Greatest}
use Rattle.phase_model.specs.declared.terms.Terms.{Terms}
use Rattle.phase_model.specs.declared.op.Look.{Look}
use Rattle.phase_model.specs.declared.op.Look.TheVariants.{Value, Nothing}
use Rattle.finish_core.specs.declared.event.FinishEvent.{FinishEvent}
use Rattle.finish_core.specs.declared.event.FinishEvent.TheVariants.{Opened, Spawned, Ended, Shut}
use Rattle.world_model.specs.declared.event.Begun.{Begun}
use Rattle.world_model.specs.declared.event.Begun.TheVariants as begun
use Rattle.world_model.specs.declared.event.Tried.{Tried}
use Rattle.world_model.specs.declared.event.Tried.TheVariants as tried
use Rattle.trace_model.specs.declared.event.TracedStep.{TracedStep}
use Rattle.trace_model.specs.declared.event.TracedStep.TheVariants as step
use Rattle.trace_model.specs.declared.event.TracedEvent.{TracedEvent}
use Rattle.trace_model.specs.declared.event.TracedEvent.TheVariants.{Phaser, Finish, Begin, Refuse, Fail}
use Rattle.trace_text.specs.Json.{IsPlain, ArePlain}
use Rattle.trace_text.specs.Form.{is_refusal}
use Rattle.trace_text.specs.declared.version.Version.{Version}
use Rattle.trace_text.specs.declared.version.Version.TheVariants.{First, Second}
use Rattle.trace_model.specs.Run.{Run}
use Rattle.trace_text.specs.Text.{list, whole, signed, mode_data, op_data, ops_data, bound_data, bound_items, terms_items, seen_data, step_items, finish_items, pair_data, begun_items, tried_items, event_items, entry_data, limits_data, number_of, trace_data, is_wide, is_value, is_number, is_index, seen_has_form, bound_has_form, terms_have_form, step_has_form, finish_has_form, begun_has_form, tried_has_form, event_has_form, entry_has_form, has_form}
use Rattle.trace_text.proofs.Events.{value_is_wide}

-- it is plain, and nests no deeper than this
abbrev pub Fits : ℕ → Data → Type 0
Fits k d = IsPlain d × (depth d ≤ k)

abbrev pub AllFit : ℕ → List Data → Type 0
AllFit k [] = ⊤
AllFit k (d ∷ ds) = Fits k d × AllFit k ds

items_fit : (k : ℕ) (ds : List Data) → AllFit k ds → ArePlain (items_of ds) × (items_depth (items_of ds) ≤ k)
items_fit k [] h = (tt, omega arith)
items_fit k (d ∷ ds) h = let rest = items_fit k ds h.1 in ((h.0.0, rest.0), omega (arith, h.0.1, rest.1))

pub list_fits : (k : ℕ) (ds : List Data) → AllFit k ds → Fits (suc k) (list ds)
list_fits k ds h = let all = items_fit k ds h in (all.0, omega (arith, all.1))

word_fits : (k : ℕ) (s : List ℕ) → are_ascii s ≡ true → Fits k (string s)
word_fits k s h = (IsUtf8-are_ascii s h, omega arith)

whole_fits : (k n : ℕ) → n < 2 ^ 64 → Fits k (whole n)
whole_fits k n h = (h, omega arith)

number_fits : (k n : ℕ) → is_number n ≡ true → Fits k (whole n)
number_fits k n h = whole_fits k n (omega (arith, leb-true n (2 ^ 32 - 1) h))

index_fits : (k a : ℕ) → nat_le a 255 ≡ true → Fits k (whole a)
index_fits k a h = whole_fits k a (omega (arith, leb-true a 255 h))

refusal_fits : (k n : ℕ) → is_refusal n ≡ true → Fits k (whole n)
refusal_fits k n h = whole_fits k n (omega (arith, leb-true n 26 (and_parts (nat_le 1 n) (nat_le n 26) h).1))

wide_fits : (k : ℕ) (z : ℤ) → is_wide z ≡ true → Fits k (signed z)
wide_fits k (pos n) h = (omega (arith, ltb-true n (2 ^ 63) h), omega arith)
wide_fits k (negsuc n) h = (ltb-true n (2 ^ 63) h, omega arith)

value_fits : (k : ℕ) (z : ℤ) → is_value z ≡ true → Fits k (signed z)
value_fits k z h = wide_fits k z (value_is_wide z h)

mode_fits : (k : ℕ) (m : Mode) → Fits k (mode_data m)
mode_fits k Sig = word_fits k _ refl
mode_fits k Wait = word_fits k _ refl
mode_fits k SigWait = word_fits k _ refl
mode_fits k Single = word_fits k _ refl

op_fits : (k : ℕ) (op : Op) → Fits k (op_data op)
op_fits k Sum = word_fits k _ refl
op_fits k Least = word_fits k _ refl
op_fits k Greatest = word_fits k _ refl

all_ops_fit : (k : ℕ) (ops : List Op) → AllFit k (map op_data ops)
all_ops_fit k [] = tt
all_ops_fit k (op ∷ ops) = (op_fits k op, all_ops_fit k ops)

ops_fit : (k : ℕ) (ops : List Op) → Fits (suc k) (ops_data ops)
ops_fit k ops = list_fits k _ (all_ops_fit k ops)

bound_fits : (k : ℕ) (b : Option ℕ) → bound_has_form b ≡ true → Fits k (bound_data b)
bound_fits k None h = (tt, omega arith)
bound_fits k (Some b) h = whole_fits k b (omega (arith, leb-true b 65536 (and_parts (nat_le 1 b) (nat_le b 65536) h).1))

bounds_fit : (k : ℕ) (v : Version) (b : Option ℕ) → bound_has_form b ≡ true → AllFit k (bound_items v b)
bounds_fit k First b h = tt
bounds_fit k Second b h = (bound_fits k b h, tt)

terms_fit : (k : ℕ) (v : Version) (m : Mode) (terms : Terms) → terms_have_form terms ≡ true → AllFit (suc k) (terms_items v m terms)
terms_fit k v m terms h =
    let p = and_parts (nat_le (length terms.ops) 4) (bound_has_form terms.bound) h in
    (mode_fits (suc k) m, (ops_fit k terms.ops, bounds_fit (suc k) v terms.bound p.1))

seen_fits : (k : ℕ) (x : Look ℤ) → seen_has_form x ≡ true → Fits k (seen_data x)
seen_fits k (Value z) h = wide_fits k z h
seen_fits k Nothing h = (tt, omega arith)

-- ---- events

steps_fit : (k : ℕ) (v : Version) (s : TracedStep) → step_has_form s ≡ true → AllFit (suc k) (step_items v s)
steps_fit k v (step.Make t m terms) h =
    let p = and_parts (is_number t) (terms_have_form terms) h in
    (word_fits (suc k) _ refl, (number_fits (suc k) t p.0, terms_fit k v m terms p.1))
steps_fit k v (step.Reg q t m) h =
    let p = and_parts (is_number q) (is_number t) h in
    (word_fits (suc k) _ refl, (number_fits (suc k) q p.0, (number_fits (suc k) t p.1, (mode_fits (suc k) m, tt))))
steps_fit k v (step.Sig t None) h = (word_fits (suc k) _ refl, (number_fits (suc k) t h, tt))
steps_fit k v (step.Sig t (Some n)) h =
    let p = and_parts (is_number t) (is_number n) h in
    (word_fits (suc k) _ refl, (number_fits (suc k) t p.0, (number_fits (suc k) n p.1, tt)))
steps_fit k v (step.Claim t) h = (word_fits (suc k) _ refl, (number_fits (suc k) t h, tt))
steps_fit k v (step.Did t) h = (word_fits (suc k) _ refl, (number_fits (suc k) t h, tt))
steps_fit k v (step.Pass t) h = (word_fits (suc k) _ refl, (number_fits (suc k) t h, tt))
steps_fit k v (step.Send t a x) h =
    let p = and_parts (is_number t && is_index a) (is_value x) h in
    let q = and_parts (is_number t) (is_index a) p.0 in
    (word_fits (suc k) _ refl, (number_fits (suc k) t q.0, (index_fits (suc k) a q.1, (value_fits (suc k) x p.1, tt))))
steps_fit k v (step.Look t a x) h =
    let p = and_parts (is_number t && is_index a) (seen_has_form x) h in
    let q = and_parts (is_number t) (is_index a) p.0 in
    (word_fits (suc k) _ refl, (number_fits (suc k) t q.0, (index_fits (suc k) a q.1, (seen_fits (suc k) x p.1, tt))))
steps_fit k v (step.Drop t) h = (word_fits (suc k) _ refl, (number_fits (suc k) t h, tt))

finishes_fit : (k : ℕ) (e : FinishEvent) → finish_has_form e ≡ true → AllFit k (finish_items e)
finishes_fit k (Opened t) h = (word_fits k _ refl, (number_fits k t h, tt))
finishes_fit k (Spawned t) h = (word_fits k _ refl, (number_fits k t h, tt))
finishes_fit k (Ended t) h = (word_fits k _ refl, (number_fits k t h, tt))
finishes_fit k Shut h = (word_fits k _ refl, tt)

all_pairs_fit : (k : ℕ) (ps : List Pair) → list_all (λ p. is_number p.phaser) ps ≡ true → AllFit (suc k) (map pair_data ps)
all_pairs_fit k [] h = tt
all_pairs_fit k (p ∷ ps) h =
    let q = and_parts (is_number p.phaser) (list_all (λ r. is_number r.phaser) ps) h in
    (list_fits k (whole p.phaser ∷ mode_data p.mode ∷ []) (number_fits k p.phaser q.0, (mode_fits k p.mode, tt)), all_pairs_fit k ps q.1)

begun_fit : (k : ℕ) (act : Begun) → begun_has_form act ≡ true → AllFit (suc (suc k)) (begun_items act)
begun_fit k (begun.Async child pairs) h =
    let p = and_parts (is_number child && nat_le (length pairs) 16) (list_all (λ r. is_number r.phaser) pairs) h in
    let q = and_parts (is_number child) (nat_le (length pairs) 16) p.0 in
    (word_fits (suc (suc k)) _ refl, (number_fits (suc (suc k)) child q.0, (list_fits (suc k) _ (all_pairs_fit k pairs p.1), tt)))
begun_fit k begun.Signal h = (word_fits (suc (suc k)) _ refl, tt)
begun_fit k begun.Wait h = (word_fits (suc (suc k)) _ refl, tt)
begun_fit k begun.Next h = (word_fits (suc (suc k)) _ refl, tt)
begun_fit k (begun.NextSingle n) h = (word_fits (suc (suc k)) _ refl, (number_fits (suc (suc k)) n h, tt))
begun_fit k begun.Shut h = (word_fits (suc (suc k)) _ refl, tt)
begun_fit k begun.End h = (word_fits (suc (suc k)) _ refl, tt)

tried_fit : (k : ℕ) (v : Version) (act : Tried) → tried_has_form act ≡ true → AllFit (suc (suc k)) (tried_items v act)
tried_fit k v (tried.Begun act) h = begun_fit k act h
tried_fit k v (tried.New ph m terms) h =
    let p = and_parts (is_number ph) (terms_have_form terms) h in
    (word_fits (suc (suc k)) _ refl, (number_fits (suc (suc k)) ph p.0, terms_fit (suc k) v m terms p.1))
tried_fit k v (tried.Open f) h = (word_fits (suc (suc k)) _ refl, (number_fits (suc (suc k)) f h, tt))
tried_fit k v (tried.Send ph a x) h =
    let p = and_parts (is_number ph && is_index a) (is_value x) h in
    let q = and_parts (is_number ph) (is_index a) p.0 in
    (word_fits (suc (suc k)) _ refl, (number_fits (suc (suc k)) ph q.0, (index_fits (suc (suc k)) a q.1, (value_fits (suc (suc k)) x p.1, tt))))
tried_fit k v (tried.Look ph a) h =
    let p = and_parts (is_number ph) (is_index a) h in
    (word_fits (suc (suc k)) _ refl, (number_fits (suc (suc k)) ph p.0, (index_fits (suc (suc k)) a p.1, tt)))

events_fit : (v : Version) (e : TracedEvent) → event_has_form e ≡ true → AllFit 3 (event_items v e)
events_fit v (Phaser ph s) h =
    let p = and_parts (is_number ph) (step_has_form s) h in
    (word_fits 3 _ refl, (number_fits 3 ph p.0, steps_fit 2 v s p.1))
events_fit v (Finish f e) h =
    let p = and_parts (is_number f) (finish_has_form e) h in
    (word_fits 3 _ refl, (number_fits 3 f p.0, finishes_fit 3 e p.1))
events_fit v (Begin t act) h =
    let p = and_parts (is_number t) (begun_has_form act) h in
    (word_fits 3 _ refl, (number_fits 3 t p.0, (word_fits 3 _ refl, (list_fits 2 _ (begun_fit 0 act p.1), tt))))
events_fit v (Refuse t act n) h =
    let p = and_parts (is_number t && tried_has_form act) (is_refusal n) h in
    let q = and_parts (is_number t) (tried_has_form act) p.0 in
    (word_fits 3 _ refl, (number_fits 3 t q.0, (word_fits 3 _ refl, (list_fits 2 _ (tried_fit 0 v act q.1), (refusal_fits 3 n p.1, tt)))))
events_fit v (Fail t n) h =
    let p = and_parts (is_number t) (is_refusal n) h in
    (word_fits 3 _ refl, (number_fits 3 t p.0, (word_fits 3 _ refl, (refusal_fits 3 n p.1, tt))))

entry_fits : (v : Version) (e : ℕ × TracedEvent) → entry_has_form e ≡ true → Fits 4 (entry_data v e)
entry_fits v e h =
    let p = and_parts (nat_lt e.0 (2 ^ 64)) (event_has_form e.1) h in
    list_fits 3 (whole e.0 ∷ event_items v e.1) (whole_fits 3 e.0 (ltb-true e.0 (2 ^ 64) p.0), events_fit v e.1 p.1)

entries_fit : (v : Version) (es : List (ℕ × TracedEvent)) → list_all entry_has_form es ≡ true → AllFit 4 (map (entry_data v) es)
entries_fit v [] h = tt
entries_fit v (e ∷ es) h =
    let p = and_parts (entry_has_form e) (list_all entry_has_form es) h in
    (entry_fits v e p.0, entries_fit v es p.1)

-- ---- the whole

limit_fits : (low n high : ℕ) → is_between low n high ≡ true → high < 2 ^ 64 → n < 2 ^ 64
limit_fits low n high h few = omega (arith, leb-true n high (and_parts (nat_le low n) (nat_le n high) h).1, few)

limits_are_plain : (l : Limits) → limits_fit l ≡ true → Fits 1 (limits_data l)
limits_are_plain l h =
    let acts = is_between 1 l.acts 65536 in
    let finishes = is_between 1 l.finishes 1024 in
    let history = is_between 4 l.history 65536 in
    let phasers = is_between 1 l.phasers 64 in
    let regs = is_between 1 l.regs 256 in
    let p = and_parts (acts && finishes && history && phasers && regs) (is_between 1 l.tasks 4096) h in
    let q = and_parts (acts && finishes && history && phasers) regs p.0 in
    let r = and_parts (acts && finishes && history) phasers q.0 in
    let s = and_parts (acts && finishes) history r.0 in
    let t = and_parts acts finishes s.0 in (
      (
        ((
          IsUtf8-are_ascii _ refl,
          limit_fits 1 l.acts 65536 t.0 (omega arith),
          (
            IsUtf8-are_ascii _ refl,
            limit_fits 1 l.finishes 1024 t.1 (omega arith),
            (
              IsUtf8-are_ascii _ refl,
              limit_fits 4 l.history 65536 s.1 (omega arith),
              (
                IsUtf8-are_ascii _ refl,
                limit_fits 1 l.phasers 64 r.1 (omega arith),
                (
                  IsUtf8-are_ascii _ refl,
                  limit_fits 1 l.regs 256 q.1 (omega arith),
                  (IsUtf8-are_ascii _ refl, limit_fits 1 l.tasks 4096 p.1 (omega arith), tt),
                ),
              ),
            ),
          ),
        )
            ),
        refl,
      ),
      omega arith,
    )

-- a trace in a version, under any number
unfoldable pub numbered_data : ℕ → Version → Run → Data
numbered_data n v r = object
    (member (codes "events") (list (map (entry_data v) r.events))
    (member (codes "limits") (limits_data r.limits)
    (member (codes "version") (whole n) no_members)))

pub numbered_is_plain : (n : ℕ) (v : Version) (r : Run) → n < 2 ^ 64 → limits_fit r.limits ≡ true → has_form r ≡ true → Fits 6 (numbered_data n v r)
unfolding numbered_data
numbered_is_plain n v r small fit good =
    let limits = limits_are_plain r.limits fit in
    let events = list_fits 4 _ (entries_fit v r.events good) in (
      (
        (
          IsUtf8-are_ascii _ refl,
          events.0,
          (
            IsUtf8-are_ascii _ refl,
            limits.0,
            (IsUtf8-are_ascii _ refl, small, tt),
          ),
        ),
        refl,
      ),
      omega (arith, limits.1, events.1),
    )

version_is_whole : (v : Version) → number_of v < 2 ^ 64
version_is_whole First = omega arith
version_is_whole Second = omega arith

pub trace_is_plain : (v : Version) (r : Run) → limits_fit r.limits ≡ true → has_form r ≡ true → Fits 6 (trace_data v r)
unfolding trace_data numbered_data
trace_is_plain v r fit good = numbered_is_plain (number_of v) v r (version_is_whole v) fit good
