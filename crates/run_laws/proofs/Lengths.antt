-- Lists of which each key has a last part of what it has in another: what is added up over them is no more.
use Rattle.std.proofs.Common.{◌≡◌, ℕ, ◌+◌, ◌≤◌, Bool, true, false, ◌==◌, cond, List, [], ◌∷◌, ◌++◌, refl, sym, subst, ap, ◌∙◌, inl, inr, arith}
use Rattle.std.proofs.lemmas.Bool.{cases_Bool, eqb-true, eq-eqb}
use Rattle.run_laws.proofs.Plain.{same_parts}
use Rattle.run_laws.proofs.Shuffles.{of_key, of_key-append, total, moved}

module _ {X : Type 0} (key : X → ℕ) where
  -- one of a key, where these of the key come before it and these after it
  record IsSplit (u : ℕ) (x : X) (more rest ys : List X) : Type 0 where
    before : List X
    after : List X
    is : ys ≡ before ++ x ∷ after
    newer : of_key key u before ≡ more
    older : of_key key u after ≡ rest

  split_with : (u : ℕ) (x : X) (more rest ys : List X) → of_key key u ys ≡ more ++ x ∷ rest
      → IsSplit u x more rest ys
  split_with u x more rest [] e = absurd (none more e)
    where
      none : (more : List X) → [] ≡ more ++ x ∷ rest → ⊥
      none [] h = cc
      none (m ∷ more) h = cc
  split_with u x more rest (y ∷ ys) e =
      by_test (λ more h. split_with u x more rest ys h) more (key y == u) refl e
    where
      by_test : ((more : List X) → of_key key u ys ≡ more ++ x ∷ rest → IsSplit u x more rest ys)
          → (more : List X) (b : Bool) → (key y == u) ≡ b
          → cond b (y ∷ of_key key u ys) (of_key key u ys) ≡ more ++ x ∷ rest → IsSplit u x more rest (y ∷ ys)
      by_test later [] true k h =
          let p = same_parts h in
          record { before = []; after = ys; is = ap (λ z. z ∷ ys) p.0; newer = refl; older = p.1 }
      by_test later (m ∷ more) true k h =
          let p = same_parts h in
          let f = later more p.1 in
          record {
            before = y ∷ f.before;
            after = f.after;
            is = ap (λ zs. y ∷ zs) f.is;
            newer = rw k (ap (λ z. z ∷ of_key key u f.before) p.0 ∙ ap (λ zs. m ∷ zs) f.newer);
            older = f.older;
          }
      by_test later more false k h =
          let f = later more h in
          record {
            before = y ∷ f.before;
            after = f.after;
            is = ap (λ zs. y ∷ zs) f.is;
            newer = rw k f.newer;
            older = f.older;
          }

  -- of each key, what xs has is a last part of what ys has
  abbrev pub HaveMore : List X → List X → Type 0
  HaveMore xs ys = (u : ℕ) → (more : List X) × (of_key key u ys ≡ more ++ of_key key u xs)

  module _ (weight : X → ℕ)
      (swaps : (x y : X) (r : ℕ) → weight x + (weight y + r) ≡ weight y + (weight x + r)) where
    abbrev sum : List X → ℕ
    sum xs = total key (λ x r. weight x + r) swaps 0 xs

    rest_have : (x : X) (xs ys : List X) → HaveMore (x ∷ xs) ys → (more : List X)
        → (s : IsSplit (key x) x more (of_key key (key x) xs) ys) → HaveMore xs (s.before ++ s.after)
    rest_have x xs ys have more s u =
        elim (cases_Bool (key x == u)) [
          | inl e ↦
              let is : key x ≡ u = eqb-true (key x) u e in
              let n : of_key key u s.before ≡ more = subst (λ k. of_key key k s.before ≡ more) is s.newer in
              let o : of_key key u s.after ≡ of_key key u xs =
              subst (λ k. of_key key k s.after ≡ of_key key k xs) is s.older in (
                more,
                of_key-append key u s.before s.after
                    ∙ (ap (λ zs. zs ++ of_key key u s.after) n ∙ ap (λ zs. more ++ zs) o),
              )
          | inr e ↦
              let h = have u in
              let here : of_key key u (x ∷ xs) ≡ of_key key u xs = rw e refl in
              let there : of_key key u (x ∷ s.after) ≡ of_key key u s.after = rw e refl in
              let whole : of_key key u ys ≡ of_key key u (s.before ++ s.after) =
              ap (λ zs. of_key key u zs) s.is
              ∙ (of_key-append key u s.before (x ∷ s.after)
              ∙ (ap (λ zs. of_key key u s.before ++ zs) there ∙ sym (of_key-append key u s.before s.after))) in
              (h.0, sym whole ∙ (h.1 ∙ ap (λ zs. h.0 ++ zs) here))
        ]

    pub at_most : (xs ys : List X) → HaveMore xs ys → sum xs ≤ sum ys
    at_most [] ys have = omega arith
    at_most (x ∷ xs) ys have =
        let h = have (key x) in
        let here : of_key key (key x) (x ∷ xs) ≡ x ∷ of_key key (key x) xs =
        rw (eq-eqb (key x) (key x) refl) refl in
        let s = split_with (key x) x h.0 (of_key key (key x) xs) ys (h.1 ∙ ap (λ zs. h.0 ++ zs) here) in
        let rest : sum xs ≤ sum (s.before ++ s.after) =
        at_most xs (s.before ++ s.after) (rest_have x xs ys have h.0 s) in
        let is : sum ys ≡ weight x + sum (s.before ++ s.after) =
        ap (λ zs. sum zs) s.is ∙ moved key (λ x r. weight x + r) swaps 0 x s.before s.after in
        omega (arith, rest, is)
