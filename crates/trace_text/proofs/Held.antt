-- Where each event has a form if it notes no number but a refusal's, so has the trace if none of them does.
use Rattle.std.proofs.Common.{◌≡◌, ℕ, ◌+◌, ◌≤◌, true, List, [], ◌∷◌, length, take, Some, refl, sym, subst}
use Rattle.std.proofs.lemmas.Bool.{and_parts}
use Rattle.std.proofs.lemmas.List.{take_all}
use Rattle.std.proofs.lemmas.List.Elements.{All-head, All-tail, All-more}
use Rattle.std.proofs.lemmas.Option.{slice_get_within, get_or_from_slice_get}
use Rattle.std.specs.List.{All, list_all, slice_get}
use Rattle.trace_model.specs.Run.{Entry, Run}
use Rattle.trace_text.specs.Noted.{notes_refusal, notes_refusals}
use Rattle.trace_text.specs.Text.{entry_has_form, has_form}

-- the entry has a form, if it notes no number but a refusal's
abbrev pub MayHaveForm : Entry → Type 0
MayHaveForm e = notes_refusal e.1 ≡ true → entry_has_form e ≡ true

pub one_more : (es : List Entry) (i : ℕ) (e : Entry) → slice_get es i ≡ Some e
    → All MayHaveForm (take i es) → MayHaveForm e → All MayHaveForm (take (i + 1) es)
one_more es i e at so_far here =
    All-more MayHaveForm es i e (slice_get_within es i e at) so_far
    (subst MayHaveForm (sym (get_or_from_slice_get es i e e at)) here)

all_have : (es : List Entry) → All MayHaveForm es → list_all (λ (e : Entry). notes_refusal e.1) es ≡ true
    → list_all entry_has_form es ≡ true
all_have [] may noted = refl
all_have (e ∷ es) may noted =
    let p = and_parts (notes_refusal e.1) (list_all (λ (x : Entry). notes_refusal x.1) es) noted in
    rw (All-head MayHaveForm e es may p.0) (all_have es (All-tail MayHaveForm e es may) p.1)

pub has_form_at_end : (r : Run) (n : ℕ) → length r.events ≤ n → All MayHaveForm (take n r.events)
    → notes_refusals r ≡ true → has_form r ≡ true
has_form_at_end r n over may noted =
    all_have r.events (subst (λ (l : List Entry). All MayHaveForm l) (take_all n r.events over) may) noted
