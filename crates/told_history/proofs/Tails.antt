-- A log and a longer one, as they are kept.
use Rattle.std.proofs.Common.{◌≡◌, ℕ, zero, suc, ◌≤◌, ◌⊎◌, List, [], ◌∷◌, ◌++◌, map, length, reverse, refl, sym, ap, ◌∙◌, arith, inl, inr}
use Rattle.std.proofs.lemmas.List.{reverse-append, reverse-reverse}
use mathlib.Core.List.{IsPrefix, cons≢nil}
use base.Stored.{Gv, Coded}
use Rattle.told_history.specs.Owned.{kept}
use Rattle.told_history.specs.Tails.{IsTail}

-- of two beginnings of one list the shorter begins the longer
shorter : {X : Type 0} (xs ys zs : List X) → IsPrefix xs zs → IsPrefix ys zs → length xs ≤ length ys → IsPrefix xs ys
shorter [] ys zs p q le = (ys, refl)
shorter (x ∷ xs) [] zs p q le = absurd (omega arith)
shorter (x ∷ xs) (y ∷ ys) [] p q le = absurd (cons≢nil (p.1))
shorter (x ∷ xs) (y ∷ ys) (z ∷ zs) p q le =
    let heads : x ≡ y = cc (p.1, q.1) in
    let rest = shorter xs ys zs (p.0, cc (p.1)) (q.0, cc (q.1)) (omega arith) in
    (rest.0, cc (heads, rest.1))

total : (m n : ℕ) → (m ≤ n) ⊎ (n ≤ m)
total zero n = inl (omega arith)
total (suc m) zero = inr (omega arith)
total (suc m) (suc n) = up (total m n) where
  up : (m ≤ n) ⊎ (n ≤ m) → (suc m ≤ suc n) ⊎ (suc n ≤ suc m)
  up (inl h) = inl (omega (arith, h))
  up (inr h) = inr (omega (arith, h))

module _ {A : Type 0} (cv : Coded A) where
  abbrev head : Gv → List Gv → Gv
  head d [] = d
  head d (g ∷ gs) = g

  abbrev tail : List Gv → List Gv
  tail [] = []
  tail (g ∷ gs) = gs

  uncoded : (xs ys : List A) (t : List Gv) → map cv.code xs ++ t ≡ map cv.code ys → IsPrefix xs ys
  uncoded [] ys t e = (ys, refl)
  uncoded (x ∷ xs) [] t e = absurd (cons≢nil e)
  uncoded (x ∷ xs) (y ∷ ys) t e = let r = uncoded xs ys t (ap tail e) in (r.0, λ i. cv.inj x y (ap (head (cv.code x)) e) i ∷ r.1 i)

  turned : (xs ys : List A) → IsPrefix (reverse xs) (reverse ys) → IsTail xs ys
  turned xs ys p = (
    reverse p.0,
    sym (reverse-reverse ys) ∙ (ap reverse (sym p.1) ∙ (reverse-append (reverse xs) p.0 ∙ ap (λ w. reverse p.0 ++ w) (reverse-reverse xs))),
  )

  pub tail_out : (xs ys : List A) → IsPrefix (kept cv.code xs) (kept cv.code ys) → IsTail xs ys
  tail_out xs ys p = turned xs ys (uncoded (reverse xs) (reverse ys) p.0 p.1)

  pub one_of_both : (xs ys : List A) (all : List Gv) → IsPrefix (kept cv.code xs) all → IsPrefix (kept cv.code ys) all → IsTail xs ys ⊎ IsTail ys xs
  one_of_both xs ys all p q = by_length (total (length (kept cv.code xs)) (length (kept cv.code ys))) where
    by_length : (length (kept cv.code xs) ≤ length (kept cv.code ys)) ⊎ (length (kept cv.code ys) ≤ length (kept cv.code xs)) → IsTail xs ys ⊎ IsTail ys xs
    by_length (inl h) = inl (tail_out xs ys (shorter (kept cv.code xs) (kept cv.code ys) all p q h))
    by_length (inr h) = inr (tail_out ys xs (shorter (kept cv.code ys) (kept cv.code xs) all q p h))
