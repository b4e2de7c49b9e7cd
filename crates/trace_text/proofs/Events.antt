-- An event that has a form is the form of its JSON, in each version that says what it says of a bound.
use Rattle.std.proofs.Common.{◌≡◌, ℕ, ℤ, pos, negsuc, ◌-◌, ◌^◌, ◌&&◌, true, false, nat_le, nat_lt, List, [], ◌∷◌, map, length, Option, Some, None, codes, option_map, refl, ap, ◌∙◌, arith}
use Rattle.std.specs.Prelude.{⊤}
use Rattle.std.proofs.lemmas.Bool.{and_parts, ltb-false, lt-ltb, not-true, true≢false}
use Rattle.std.specs.List.{list_all}
use Rattle.serde_json.specs.Data.{string}
use Rattle.serde_json.specs.View.{items_of}
use Rattle.phase_modes.specs.declared.reg.Mode.{Mode}
use Rattle.phase_modes.specs.declared.reg.Mode.TheVariants.{Sig, Wait, SigWait, Single}
use Rattle.phase_modes.specs.declared.phased.Pair.{Pair}
use Rattle.phase_model.specs.declared.op.Op.{Op}
use Rattle.phase_model.specs.declared.op.Op.TheVariants.{Sum, Least, Greatest}
use Rattle.trace_text.specs.declared.version.Version.{Version}
use Rattle.trace_text.specs.declared.version.Version.TheVariants.{First, Second}
use Rattle.phase_model.specs.declared.op.Look.{Look}
use Rattle.phase_model.specs.declared.op.Look.TheVariants.{Value, Nothing}
use Rattle.finish_core.specs.declared.event.FinishEvent.{FinishEvent}
use Rattle.finish_core.specs.declared.event.FinishEvent.TheVariants.{Opened, Spawned, Ended, Shut}
use Rattle.world_model.specs.declared.event.Begun.{Begun}
use Rattle.world_model.specs.declared.event.Begun.TheVariants as begun
use Rattle.world_model.specs.declared.event.Tried.{Tried}
use Rattle.world_model.specs.declared.event.Tried.TheVariants as tried
use Rattle.trace_model.specs.declared.event.TracedStep.{TracedStep}
use Rattle.trace_model.specs.declared.event.TracedStep.TheVariants as step
use Rattle.trace_model.specs.declared.event.TracedEvent.{TracedEvent}
use Rattle.trace_model.specs.declared.event.TracedEvent.TheVariants.{Phaser, Finish, Begin, Refuse, Fail}
use Rattle.job_script.specs.Words.{◌>>=◌, signed_in, value_in, mode_in, op_in, all_in, ops_in, at_most}
use Rattle.trace_text.specs.Form.{bound_or_null, bound_after, is_refusal, make_in, reg_in, sig_in, task_step_in, send_in, seen_in, look_in, step_in, finish_event_in, pair_in, pairs_in, async_in, single_in, bare_act_in, begun_in, new_in, open_in, send_act_in, look_act_in, tried_in, begin_in, refuse_in, fail_in, log_entry_in, event_in, entry_in}
use Rattle.trace_text.specs.Text.{list, whole, signed, mode_data, op_data, ops_data, bound_data, bound_items, seen_data, step_items, finish_items, pair_data, pairs_data, begun_items, tried_items, event_items, entry_data, is_wide, is_value, is_number, is_index, has_bound, seen_has_form, bound_has_form, terms_have_form, step_has_form, finish_has_form, begun_has_form, tried_has_form, event_has_form, entry_has_form}

-- ---- words and numbers

mode_back : (m : Mode) → mode_in (mode_data m) ≡ Some m
unfolding mode_in
mode_back Sig = refl
mode_back Wait = refl
mode_back SigWait = refl
mode_back Single = refl

op_back : (op : Op) → op_in (op_data op) ≡ Some op
unfolding op_in
op_back Sum = refl
op_back Least = refl
op_back Greatest = refl

ops_from_back : (ops : List Op) → all_in op_in (items_of (map op_data ops)) ≡ Some ops
unfolding all_in
ops_from_back [] = refl
ops_from_back (op ∷ ops) = rw (op_back op, ops_from_back ops) refl

ops_back : (ops : List Op) → nat_le (length ops) 4 ≡ true → ops_in (ops_data ops) ≡ Some ops
ops_back ops few = ap (at_most 4) (ops_from_back ops) ∙ rw few refl

bound_back : (b : Option ℕ) → bound_has_form b ≡ true → bound_or_null (bound_data b) ≡ Some b
bound_back None h = refl
bound_back (Some b) h = let p = and_parts (nat_le 1 b) (nat_le b 65536) h in rw (p.1, p.0) refl

-- the version says the event's bound, or there is none
abbrev pub Says : Version → TracedEvent → Type 0
Says First e = has_bound e ≡ false
Says Second e = ⊤

wide_back : (z : ℤ) → is_wide z ≡ true → signed_in (signed z) ≡ Some z
wide_back (pos n) h = rw h refl
wide_back (negsuc n) h = refl

pub value_is_wide : (z : ℤ) → is_value z ≡ true → is_wide z ≡ true
value_is_wide (pos n) h = lt-ltb n (2 ^ 63) (omega (arith, ltb-false (2 ^ 31 - 1) n (not-true _ h)))
value_is_wide (negsuc n) h = lt-ltb n (2 ^ 63) (grind (arith, h))

value_back : (z : ℤ) → is_value z ≡ true → value_in (signed z) ≡ Some z
value_back z h = rw (wide_back z (value_is_wide z h), not-true _ h) refl

seen_back : (x : Look ℤ) → seen_has_form x ≡ true → seen_in (seen_data x) ≡ Some x
seen_back Nothing h = refl
seen_back (Value z) h = ap (option_map Value) (wide_back z h)

-- ---- steps on a phaser

make_back : (v : Version) (ticket ph t : ℕ) (m : Mode) (ops : List Op) (b : Option ℕ)
    → is_number t ≡ true → nat_le (length ops) 4 ≡ true → bound_has_form b ≡ true
    → Says v (Phaser ph (step.Make t m (record { ops = ops; bound = b })))
    → make_in v (list (whole ticket ∷ string (codes "p") ∷ whole ph ∷ string (codes "make") ∷ whole t ∷ mode_data m ∷ ops_data ops ∷ bound_items v b)) ≡ Some (step.Make t m (record { ops = ops; bound = b }))
unfolding make_in bound_after
make_back First ticket ph t m ops None h few fits said = rw (h, mode_back m, ops_back ops few) refl
make_back First ticket ph t m ops (Some b) h few fits said = absurd (true≢false said)
make_back Second ticket ph t m ops b h few fits said = rw (bound_back b fits, h, mode_back m, ops_back ops few) refl

pub step_back : (v : Version) (ticket ph : ℕ) (s : TracedStep) → step_has_form s ≡ true → Says v (Phaser ph s) → step_in v (list (whole ticket ∷ string (codes "p") ∷ whole ph ∷ step_items v s)) ≡ Some s
unfolding step_in reg_in sig_in task_step_in send_in look_in
step_back v ticket ph (step.Make t m terms) h said =
    let p = and_parts (is_number t) (terms_have_form terms) h in
    let q = and_parts (nat_le (length terms.ops) 4) (bound_has_form terms.bound) p.1 in
    make_back v ticket ph t m terms.ops terms.bound p.0 q.0 q.1 said
step_back v ticket ph (step.Reg q t m) h said = let p = and_parts (is_number q) (is_number t) h in rw (p.0, p.1, mode_back m) refl
step_back v ticket ph (step.Sig t None) h said = rw h refl
step_back v ticket ph (step.Sig t (Some n)) h said = let p = and_parts (is_number t) (is_number n) h in rw (p.0, p.1) refl
step_back v ticket ph (step.Claim t) h said = rw h refl
step_back v ticket ph (step.Did t) h said = rw h refl
step_back v ticket ph (step.Pass t) h said = rw h refl
step_back v ticket ph (step.Send t a x) h said =
    let p = and_parts (is_number t && is_index a) (is_value x) h in
    let q = and_parts (is_number t) (is_index a) p.0 in
    rw (q.0, q.1, value_back x p.1) refl
step_back v ticket ph (step.Look t a x) h said =
    let p = and_parts (is_number t && is_index a) (seen_has_form x) h in
    let q = and_parts (is_number t) (is_index a) p.0 in
    rw (q.0, q.1, seen_back x p.1) refl
step_back v ticket ph (step.Drop t) h said = rw h refl

-- ---- events of a finish

pub finish_back : (ticket f : ℕ) (e : FinishEvent) → finish_has_form e ≡ true → finish_event_in (list (whole ticket ∷ string (codes "f") ∷ whole f ∷ finish_items e)) ≡ Some e
unfolding finish_event_in
finish_back ticket f (Opened t) h = rw h refl
finish_back ticket f (Spawned t) h = rw h refl
finish_back ticket f (Ended t) h = rw h refl
finish_back ticket f Shut h = refl

-- ---- acts

pair_back : (p : Pair) → is_number p.phaser ≡ true → pair_in (pair_data p) ≡ Some p
unfolding pair_in
pair_back p h = rw (h, mode_back p.mode) refl

pairs_from_back : (ps : List Pair) → list_all (λ p. is_number p.phaser) ps ≡ true → all_in pair_in (items_of (map pair_data ps)) ≡ Some ps
unfolding all_in
pairs_from_back [] h = refl
pairs_from_back (p ∷ ps) h =
    let q = and_parts (is_number p.phaser) (list_all (λ r. is_number r.phaser) ps) h in
    rw (pair_back p q.0, pairs_from_back ps q.1) refl

pairs_back : (ps : List Pair) → nat_le (length ps) 16 ≡ true → list_all (λ p. is_number p.phaser) ps ≡ true → pairs_in (pairs_data ps) ≡ Some ps
pairs_back ps few h = ap (at_most 16) (pairs_from_back ps h) ∙ rw few refl

begun_back : (act : Begun) → begun_has_form act ≡ true → begun_in (list (begun_items act)) ≡ Some act
unfolding begun_in async_in single_in bare_act_in
begun_back (begun.Async child pairs) h =
    let p = and_parts (is_number child && nat_le (length pairs) 16) (list_all (λ r. is_number r.phaser) pairs) h in
    let q = and_parts (is_number child) (nat_le (length pairs) 16) p.0 in
    rw (q.0, pairs_back pairs q.1 p.1) refl
begun_back begun.Signal h = refl
begun_back begun.Wait h = refl
begun_back begun.Next h = refl
begun_back (begun.NextSingle n) h = rw h refl
begun_back begun.Shut h = refl
begun_back begun.End h = refl

-- no act that begins has the name of one of the others
begun_is_tried : (v : Version) (act : Begun) → tried_in v (list (begun_items act)) ≡ (begun_in (list (begun_items act)) >>= λ a. Some (tried.Begun a))
unfolding tried_in
begun_is_tried v (begun.Async child pairs) = refl
begun_is_tried v begun.Signal = refl
begun_is_tried v begun.Wait = refl
begun_is_tried v begun.Next = refl
begun_is_tried v (begun.NextSingle n) = refl
begun_is_tried v begun.Shut = refl
begun_is_tried v begun.End = refl

new_back : (v : Version) (t n ph : ℕ) (m : Mode) (ops : List Op) (b : Option ℕ)
    → is_number ph ≡ true → nat_le (length ops) 4 ≡ true → bound_has_form b ≡ true
    → Says v (Refuse t (tried.New ph m (record { ops = ops; bound = b })) n)
    → new_in v (list (string (codes "new") ∷ whole ph ∷ mode_data m ∷ ops_data ops ∷ bound_items v b)) ≡ Some (tried.New ph m (record { ops = ops; bound = b }))
unfolding new_in bound_after
new_back First t n ph m ops None h few fits said = rw (h, mode_back m, ops_back ops few) refl
new_back First t n ph m ops (Some b) h few fits said = absurd (true≢false said)
new_back Second t n ph m ops b h few fits said = rw (bound_back b fits, h, mode_back m, ops_back ops few) refl

tried_back : (v : Version) (t n : ℕ) (act : Tried) → tried_has_form act ≡ true → Says v (Refuse t act n) → tried_in v (list (tried_items v act)) ≡ Some act
unfolding tried_in open_in send_act_in look_act_in
tried_back v t n (tried.Begun act) h said = begun_is_tried v act ∙ ap (λ o. o >>= λ a. Some (tried.Begun a)) (begun_back act h)
tried_back v t n (tried.New ph m terms) h said =
    let p = and_parts (is_number ph) (terms_have_form terms) h in
    let q = and_parts (nat_le (length terms.ops) 4) (bound_has_form terms.bound) p.1 in
    new_back v t n ph m terms.ops terms.bound p.0 q.0 q.1 said
tried_back v t n (tried.Open f) h said = rw h refl
tried_back v t n (tried.Send ph a x) h said =
    let p = and_parts (is_number ph && is_index a) (is_value x) h in
    let q = and_parts (is_number ph) (is_index a) p.0 in
    rw (q.0, q.1, value_back x p.1) refl
tried_back v t n (tried.Look ph a) h said = let p = and_parts (is_number ph) (is_index a) h in rw (p.0, p.1) refl

-- ---- events

event_back : (v : Version) (ticket : ℕ) (e : TracedEvent) → event_has_form e ≡ true → Says v e → event_in v (list (whole ticket ∷ event_items v e)) ≡ Some e
unfolding event_in log_entry_in begin_in refuse_in fail_in
event_back v ticket (Phaser ph s) h said = let p = and_parts (is_number ph) (step_has_form s) h in rw (p.0, step_back v ticket ph s p.1 said) refl
event_back v ticket (Finish f e) h said = let p = and_parts (is_number f) (finish_has_form e) h in rw (p.0, finish_back ticket f e p.1) refl
event_back v ticket (Begin t act) h said = let p = and_parts (is_number t) (begun_has_form act) h in rw (p.0, begun_back act p.1) refl
event_back v ticket (Refuse t act n) h said =
    let p = and_parts (is_number t && tried_has_form act) (is_refusal n) h in
    let q = and_parts (is_number t) (tried_has_form act) p.0 in
    rw (q.0, tried_back v t n act q.1 said, p.1) refl
event_back v ticket (Fail t n) h said = let p = and_parts (is_number t) (is_refusal n) h in rw (p.0, p.1) refl

pub entry_back : (v : Version) (e : ℕ × TracedEvent) → entry_has_form e ≡ true → Says v e.1 → entry_in v (entry_data v e) ≡ Some e
entry_back v e h said = rw (event_back v e.0 e.1 (and_parts (nat_lt e.0 (2 ^ 64)) (event_has_form e.1) h).1 said) refl
