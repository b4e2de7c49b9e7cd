-- A trace that has the first entries of a part, and gets the next.
use Rattle.std.proofs.Common.{◌≡◌, ℕ, ◌+◌, ◌<◌, List, [], ◌∷◌, ◌++◌, take, length, slice_get, IfSome, sym, ap, subst, ◌∙◌, arith, inl, inr}
use Rattle.std.proofs.lemmas.List.{take_more}
use Rattle.std.proofs.lemmas.Option.{slice_get_cases}
use Rattle.phase_modes.specs.declared.limits.Limits.{Limits}
use Rattle.trace_model.specs.Run.{Entry, Run, with_event}

pub added_more : (l : Limits) (es : List Entry) (i : ℕ) (old new : Run) → i < length es
    → old ≡ record { limits = l; events = take i es } → IfSome (slice_get es i) (λ e. new ≡ with_event old e)
    → new ≡ record { limits = l; events = take (i + 1) es }
added_more l es i old new less was added =
    elim (slice_get_cases es i).1 [
      | inl it ↦
          let e : Entry = it.0 in
          let made : new ≡ with_event old e = subst (λ o. IfSome o (λ x. new ≡ with_event old x)) it.2 added in
          made
          ∙ ap (λ r. with_event r e) was
          ∙ ap (λ xs. record { limits = l; events = xs }) (sym (take_more es i e less ∙ ap (λ x. take i es ++ x ∷ []) it.3))
      | inr it ↦ let over = it.0 in absurd (omega (arith, less, over))
    ]
