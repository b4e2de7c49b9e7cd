-- One event more of a part is marked.
use Rattle.std.proofs.Common.{◌≡◌, ℕ, suc, ◌+◌, ◌<◌, ◌≤◌, cond, inl, inr, arith, List, [], ◌∷◌, ◌++◌, drop, nat_lt, Some, sym, ap, ◌∙◌, drop-cons, add-one, append_assoc}
use Rattle.std.specs.List.{slice_get}
use Rattle.std.proofs.lemmas.Bool.{cases_Bool, ltb-true, lt-ltb}
use Rattle.std.proofs.lemmas.Option.{slice_get_within, get_or_from_slice_get}
use Rattle.trace_model.specs.Run.{Entry}
use Rattle.trace_replay.specs.declared.merging.Mark.{Mark}
use Rattle.trace_replay.specs.Merging.{later_of, marked_after}

-- the rest of a part begins with the event at its place
pub rest_is : (part : List Entry) (place : ℕ) (e : Entry) → slice_get part place ≡ Some e → drop place part ≡ e ∷ drop (place + 1) part
rest_is part place e here =
    drop-cons part place e (slice_get_within part place e here)
    ∙ (ap (λ x. x ∷ drop (suc place) part) (get_or_from_slice_get part place e e here)
    ∙ ap (λ n. e ∷ drop n part) (sym (add-one place)))

pub one_more : (part : List Entry) (place most most' : ℕ) (e : Entry) (ms ms' : List Mark)
    → slice_get part place ≡ Some e
    → ms' ≡ ms ++ record { ticket = e.0; event = e.1; late = nat_lt e.0 most } ∷ []
    → most' ≡ later_of most e.0
    → ms' ++ marked_after most' (drop (place + 1) part) ≡ ms ++ marked_after most (drop place part)
one_more part place most most' e ms ms' here more later =
    ap (λ (l : List Mark). l ++ marked_after most' (drop (place + 1) part)) more
    ∙ (append_assoc ms (record { ticket = e.0; event = e.1; late = nat_lt e.0 most } ∷ []) (marked_after most' (drop (place + 1) part))
    ∙ (ap (λ n. ms ++ (record { ticket = e.0; event = e.1; late = nat_lt e.0 most } ∷ marked_after n (drop (place + 1) part))) later
    ∙ sym (ap (λ (es : List Entry). ms ++ marked_after most es) (rest_is part place e here))))

-- the greatest ticket so far
pub later_here : (most ticket : ℕ) → most ≤ ticket → ticket ≡ later_of most ticket
later_here most ticket h =
    elim (cases_Bool (nat_lt ticket most)) [
      | inl e ↦ absurd (omega (arith, h, ltb-true ticket most e))
      | inr e ↦ sym (ap (λ b. cond b most ticket) e)
    ]

pub earlier_here : (most ticket : ℕ) → ticket < most → most ≡ later_of most ticket
earlier_here most ticket h = sym (ap (λ b. cond b most ticket) (lt-ltb ticket most h))
