-- What a slot reads after one was written.
use Rattle.std.proofs.Common.{◌≡◌, ℕ, ◌<◌, ◌≤◌, ◌==◌, ◌≢◌, nat_lt, Bool, true, false, cond, List, [], ◌∷◌, ◌++◌, length, get_or, set, sym, ap, ◌∙◌, inl, inr, arith}
use Rattle.std.proofs.lemmas.Bool.{cases_Bool, eqb-true, eq-eqb, false≢true, true≢false, false_from_ne_true, ltb-true, ltb-false}
use Rattle.std.proofs.lemmas.List.{get_or-set_same, get_or-set_other, get_or_push, get_or_append_left, get_or_past, length_push}
use Rattle.live_world.specs.inner.Steps.{put_at}

pub read_set : {X : Type 0} (xs : List X) (i j : ℕ) (x d : X) → i < length xs → get_or (set xs i x) j d ≡ cond (i == j) x (get_or xs j d)
read_set xs i j x d within =
    elim (cases_Bool (i == j)) [
      | inl e ↦ rw e (ap (λ k. get_or (set xs i x) k d) (sym (eqb-true i j e)) ∙ get_or-set_same xs i x d within)
      | inr e ↦ rw e (get_or-set_other xs i j x d (λ same. false≢true (sym e ∙ eq-eqb i j (sym same))))
    ]

-- a list that is one longer reads the same, but for its last place
push_other : {X : Type 0} (xs : List X) (i j : ℕ) (x d : X) → length xs ≡ i → (i == j) ≡ false → get_or (xs ++ x ∷ []) j d ≡ get_or xs j d
push_other xs i j x d same other =
    elim (cases_Bool (nat_lt j (length xs))) [
      | inl e ↦ get_or_append_left xs (x ∷ []) d j (ltb-true j (length xs) e)
      | inr e ↦
          let past : length xs ≤ j = ltb-false j (length xs) e in
          let apart : i ≢ j = λ is. false≢true (sym other ∙ eq-eqb i j is) in
          get_or_past (xs ++ x ∷ []) j d (omega (arith, length_push xs x, past, apart, same)) ∙ sym (get_or_past xs j d past)
    ]

pub read_put : {X : Type 0} (xs : List X) (i j : ℕ) (x d : X) → i ≤ length xs → get_or (put_at xs i x) j d ≡ cond (i == j) x (get_or xs j d)
read_put xs i j x d within =
    elim (cases_Bool (nat_lt i (length xs))) [
      | inl e ↦ rw e (read_set xs i j x d (ltb-true i (length xs) e))
      | inr e ↦
          let last : length xs ≡ i = omega (arith, within, ltb-false i (length xs) e) in
          rw e (elim (cases_Bool (i == j)) [
            | inl y ↦ rw y (ap (λ k. get_or (xs ++ x ∷ []) k d) (sym (eqb-true i j y)) ∙ get_or_push xs x d i last)
            | inr y ↦ rw y (push_other xs i j x d last y)
          ])
    ]

-- a slot that is free is another than one that is taken
pub apart_by : (i j : ℕ) (at : ℕ → Bool) → at i ≡ false → at j ≡ true → (i == j) ≡ false
apart_by i j at x y = false_from_ne_true (i == j) (λ e. true≢false (sym y ∙ ap at (sym (eqb-true i j e)) ∙ x))
