-- The history of the first events of a trace.
use Rattle.std.proofs.Common.{ℕ, ◌+◌, ◌<◌, ◌≤◌, ◌≡◌, List, [], ◌∷◌, reverse, take, get_or, length, slice_get, Some, sym, ap, ◌∙◌}
use Rattle.std.proofs.lemmas.List.{map-append, reverse-append, take_all, take_more, get_or-take}
use Rattle.std.proofs.lemmas.Option.{get_or_from_slice_get}
use Rattle.world_model.specs.declared.event.WorldEvent.{WorldEvent}
use Rattle.trace_model.specs.Explained.{event_of, past}
use Rattle.trace_model.specs.Run.{Entry}
use Rattle.trace_walk.specs.History.{history}

-- with one event more
pub history_more : (es : List Entry) (i : ℕ) (d : Entry) → i < length es
    → history (take (i + 1) es) ≡ event_of (get_or es i d).1 ∷ history (take i es)
history_more es i d h =
    ap (λ (xs : List Entry). history xs) (take_more es i d h)
    ∙ (ap (λ (xs : List WorldEvent). reverse xs)
    (map-append (λ (e : Entry). event_of e.1) (take i es) (get_or es i d ∷ []))
    ∙ reverse-append (past (take i es)) (event_of (get_or es i d).1 ∷ []))

-- with all
pub history_all : (es : List Entry) (i : ℕ) → length es ≤ i → history (take i es) ≡ history es
history_all es i h = ap (λ (xs : List Entry). history xs) (take_all i es h)

-- the entry at a place, as the one that is read there
pub entry_at : (es : List Entry) (i : ℕ) (e : Entry) → slice_get es i ≡ Some e → e ≡ get_or es i e
entry_at es i e at = sym (get_or_from_slice_get es i e e at)

-- it stands among the first events too
pub entry_before : (es : List Entry) (n i : ℕ) (e : Entry) → i < n → slice_get es i ≡ Some e
    → e ≡ get_or (take n es) i e
entry_before es n i e less at = entry_at es i e at ∙ sym (get_or-take n es i e less)
