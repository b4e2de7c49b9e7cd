-- A list that has each number at most as often as another list isn't longer.
use Rattle.std.proofs.Common.{◌≡◌, ℕ, ◌+◌, ◌≤◌, ◌==◌, true, false, cond, List, [], ◌∷◌, length, refl, sym, subst, ap, inl, inr, arith}
use Rattle.std.proofs.lemmas.Bool.{cases_Bool, eqb-true, eq-eqb}
use Rattle.world_model.proofs.PhasersOnce.{times}

-- the list without one n
abbrev without : ℕ → List ℕ → List ℕ
without n [] = []
without n (m ∷ ms) = cond (m == n) ms (m ∷ without n ms)

-- it is one shorter where n stands in it
one_shorter : (n : ℕ) (ms : List ℕ) → 1 ≤ times n ms → length (without n ms) + 1 ≡ length ms
one_shorter n [] e = absurd (omega (arith, e))
one_shorter n (m ∷ ms) e =
    (elim (m == n) as (λ b. 1 ≤ cond b (times n ms + 1) (times n ms) → length (cond b ms (m ∷ without n ms)) + 1 ≡ length (m ∷ ms)) [
      | true ↦ λ h. omega arith
      | false ↦ λ h. omega (arith, one_shorter n ms h)
    ]) e

-- and each other number stands in it as often
as_often : (n i : ℕ) (ms : List ℕ) → (n == i) ≡ false → times i (without n ms) ≡ times i ms
as_often n i [] e = refl
as_often n i (m ∷ ms) e =
    elim (cases_Bool (m == n)) [
      | inl k ↦ rw (k, subst (λ v. (v == i) ≡ false) (sym (eqb-true m n k)) e) refl
      | inr k ↦ rw k (ap (λ x. cond (m == i) (x + 1) x) (as_often n i ms e))
    ]

once_less : (n : ℕ) (ms : List ℕ) → 1 ≤ times n ms → times n (without n ms) + 1 ≡ times n ms
once_less n [] e = absurd (omega (arith, e))
once_less n (m ∷ ms) e =
    elim (cases_Bool (m == n)) [
      | inl k ↦ rw k refl
      | inr k ↦ rw (k, k) (once_less n ms (subst (λ b. 1 ≤ cond b (times n ms + 1) (times n ms)) k e))
    ]

pub no_longer : (ns ms : List ℕ) → ((i : ℕ) → times i ns ≤ times i ms) → length ns ≤ length ms
no_longer [] ms e = omega arith
no_longer (n ∷ ns) ms e =
    let here : times n ns + 1 ≤ times n ms = subst (λ b. cond b (times n ns + 1) (times n ns) ≤ times n ms) (eq-eqb n n refl) (e n) in
    let in_it : 1 ≤ times n ms = omega (arith, here) in
    let rest : length ns ≤ length (without n ms) =
    no_longer ns (without n ms) (λ i.
    elim (cases_Bool (n == i)) [
      | inl k ↦ subst (λ v. times v ns ≤ times v (without n ms)) (eqb-true n i k) (omega (arith, here, once_less n ms in_it))
      | inr k ↦
          let before : times i ns ≤ times i ms = subst (λ b. cond b (times i ns + 1) (times i ns) ≤ times i ms) k (e i) in
          omega (arith, before, as_often n i ms k)
    ])
    in
    omega (arith, rest, one_shorter n ms in_it)
