-- The text of a trace is read as that trace.
use Rattle.std.proofs.Common.{◌≡◌, ℕ, ◌+◌, ◌-◌, ◌^◌, ◌≤◌, ◌&&◌, true, false, nat_le, List, [], ◌∷◌, map, Some, Ok, refl, ap, ◌∙◌, arith}
use Rattle.std.specs.Prelude.{⊤}
use Rattle.std.proofs.lemmas.Bool.{and_parts, or_parts, leb-true, le-leb}
use Rattle.std.specs.List.{list_all, list_any}
use Rattle.serde_json.specs.View.{items_of}
use Rattle.phase_modes.specs.declared.limits.Limits.{Limits}
use Rattle.phase_modes.specs.Limits.{limits_fit, is_between}
use Rattle.trace_model.specs.declared.event.TracedEvent.{TracedEvent}
use Rattle.job_script.specs.Reading.{reading}
use Rattle.job_script.specs.Words.{numbered_in, only_keys, limits_in, named_limits_in}
use Rattle.trace_text.specs.Form.{entry_in, outer_in, with_limits, form_of_outer, form, form_of}
use Rattle.trace_text.specs.Text.{entry_data, limits_data, trace_data, trace_text, older_text, has_bound, has_bounds, is_number, entry_has_form, has_form}
use Rattle.trace_model.specs.Run.{Run}
use Rattle.trace_text.specs.declared.version.Version.{Version}
use Rattle.trace_text.specs.declared.version.Version.TheVariants.{First, Second}
use Rattle.serde_json.specs.Written.{compact_text}
use Rattle.trace_text.proofs.ReadBack.{text_is_read_back}
use Rattle.trace_text.proofs.Events.{Says, entry_back}
use Rattle.trace_text.proofs.Plain.{trace_is_plain}

-- the version says each bound in the events
abbrev SaysAll : Version → List (ℕ × TracedEvent) → Type 0
SaysAll First es = list_any (λ (e : ℕ × TracedEvent). has_bound e.1) es ≡ false
SaysAll Second es = ⊤

first_and_rest : (v : Version) (e : ℕ × TracedEvent) (es : List (ℕ × TracedEvent)) → SaysAll v (e ∷ es) → Says v e.1 × SaysAll v es
first_and_rest First e es said = or_parts (has_bound e.1) (list_any (λ (x : ℕ × TracedEvent). has_bound x.1) es) said
first_and_rest Second e es said = (tt, tt)

entries_back : (v : Version) (n : ℕ) (es : List (ℕ × TracedEvent)) → list_all entry_has_form es ≡ true → SaysAll v es
    → numbered_in (entry_in v) n (items_of (map (entry_data v) es)) ≡ Ok es
unfolding numbered_in
entries_back v n [] h said = refl
entries_back v n (e ∷ es) h said =
    let p = and_parts (entry_has_form e) (list_all entry_has_form es) h in
    let q = first_and_rest v e es said in
    rw (entry_back v e p.0 q.0, entries_back v (n + 1) es p.1 q.1) refl

between : (low n high : ℕ) → is_between low n high ≡ true → high ≤ 2 ^ 32 - 1 → is_number n ≡ true
between low n high h few = le-leb n (2 ^ 32 - 1) (omega (arith, leb-true n high (and_parts (nat_le low n) (nat_le n high) h).1, few))

limits_back : (l : Limits) → limits_fit l ≡ true → limits_in (limits_data l) ≡ Some l
unfolding limits_in named_limits_in only_keys
limits_back l h =
    let acts = is_between 1 l.acts 65536 in
    let finishes = is_between 1 l.finishes 1024 in
    let history = is_between 4 l.history 65536 in
    let phasers = is_between 1 l.phasers 64 in
    let regs = is_between 1 l.regs 256 in
    let p = and_parts (acts && finishes && history && phasers && regs) (is_between 1 l.tasks 4096) h in
    let q = and_parts (acts && finishes && history && phasers) regs p.0 in
    let r = and_parts (acts && finishes && history) phasers q.0 in
    let s = and_parts (acts && finishes) history r.0 in
    let t = and_parts acts finishes s.0 in
    rw (
      between 1 l.acts 65536 t.0 (omega arith),
      between 1 l.finishes 1024 t.1 (omega arith),
      between 4 l.history 65536 s.1 (omega arith),
      between 1 l.phasers 64 r.1 (omega arith),
      between 1 l.regs 256 q.1 (omega arith),
      between 1 l.tasks 4096 p.1 (omega arith),
    ) (rw h refl)

outer_back : (v : Version) (r : Run) → limits_fit r.limits ≡ true → outer_in (trace_data v r) ≡ Some (r.limits, v, items_of (map (entry_data v) r.events))
unfolding outer_in trace_data only_keys
outer_back First r fit = rw (limits_back r.limits fit) refl
outer_back Second r fit = rw (limits_back r.limits fit) refl

form_back : (v : Version) (r : Run) → limits_fit r.limits ≡ true → has_form r ≡ true → SaysAll v r.events → form (trace_data v r) ≡ Ok r
form_back v r fit good said = ap form_of_outer (outer_back v r fit) ∙ ap (with_limits r.limits) (entries_back v 1 r.events good said)

read_back : (v : Version) (r : Run) → limits_fit r.limits ≡ true → has_form r ≡ true → SaysAll v r.events → form_of (reading (compact_text (trace_data v r))) ≡ Ok r
read_back v r fit good said =
    let plain = trace_is_plain v r fit good in
    ap form_of (text_is_read_back (trace_data v r) plain.0 (omega (arith, plain.1))) ∙ form_back v r fit good said

pub trace_is_read_back : (r : Run) → limits_fit r.limits ≡ true → has_form r ≡ true → form_of (reading (trace_text r)) ≡ Ok r
trace_is_read_back r fit good = read_back Second r fit good tt

pub older_text_is_read_back : (r : Run) → limits_fit r.limits ≡ true → has_form r ≡ true → has_bounds r ≡ false → form_of (reading (older_text r)) ≡ Ok r
older_text_is_read_back r fit good none = read_back First r fit good none
