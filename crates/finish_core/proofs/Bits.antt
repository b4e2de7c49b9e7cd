-- Lists of bits, one for each task number: what a write leaves, and how many are set.
use Rattle.std.proofs.Common.{◌≡◌, ℕ, zero, suc, ◌+◌, ◌<◌, ◌≤◌, ◌==◌, Bool, true, false, ◌||◌, cond, List, [], ◌∷◌, length, get_or, set, refl, sym, ◌∙◌, inl, inr, arith}
use Rattle.std.proofs.lemmas.Bool.{cases_Bool, cases_lt, eqb-true, eq-eqb, false≢true}
use Rattle.std.proofs.lemmas.List.{get_or-set_same, get_or-set_other, get_or_past}
use Rattle.std.proofs.lemmas.List.Sums.{sum_by-cons, sum_by-set, count_by-le-length}
use Rattle.finish_core.specs.inner.State.{ones}

-- one bit more
pub ones-cons : (b : Bool) (bs : List Bool) → ones (b ∷ bs) ≡ cond b 1 0 + ones bs
ones-cons b bs = sum_by-cons (λ x. cond x 1 0) b bs

-- no more are set than there are
pub ones-le-length : (bs : List Bool) → ones bs ≤ length bs
ones-le-length bs = count_by-le-length (λ b. b) bs

-- setting a clear bit makes one more
pub ones-set : (bs : List Bool) (i : ℕ) → i < length bs → get_or bs i false ≡ false
    → ones (set bs i true) ≡ ones bs + 1
ones-set bs i within clear =
    let e = sum_by-set (λ x. cond x 1 0) bs i true false within in
    omega (arith, rw clear at e)

-- each bit that is set in a is set in b
abbrev pub AreAmong : List Bool → List Bool → Type 0
AreAmong a b = (k : ℕ) → get_or a k false ≡ true → get_or b k false ≡ true

-- then b has no fewer
pub ones-le-ones : (a b : List Bool) → length a ≡ length b → AreAmong a b → ones a ≤ ones b
ones-le-ones [] b e among = omega arith
ones-le-ones (x ∷ a) [] e among = absurd (omega arith)
ones-le-ones (true ∷ a) (true ∷ b) e among =
    omega (arith, ones-cons true a, ones-cons true b, ones-le-ones a b (omega arith) (λ k. among (suc k)))
ones-le-ones (true ∷ a) (false ∷ b) e among = absurd (false≢true (among zero refl))
ones-le-ones (false ∷ a) (true ∷ b) e among =
    omega (arith, ones-cons false a, ones-cons true b, ones-le-ones a b (omega arith) (λ k. among (suc k)))
ones-le-ones (false ∷ a) (false ∷ b) e among =
    omega (arith, ones-cons false a, ones-cons false b, ones-le-ones a b (omega arith) (λ k. among (suc k)))

-- and where it has no more, it has the same
pub among_back : (a b : List Bool) → length a ≡ length b → AreAmong a b → ones b ≤ ones a → AreAmong b a
among_back a [] e among few k is = absurd (false≢true is)
among_back [] (y ∷ b) e among few k is = absurd (omega arith)
among_back (true ∷ a) (y ∷ b) e among few zero is = refl
among_back (false ∷ a) (true ∷ b) e among few zero is =
    absurd (omega (
      arith,
      few,
      ones-cons false a,
      ones-cons true b,
      ones-le-ones a b (omega arith) (λ k. among (suc k)),
    ))
among_back (false ∷ a) (false ∷ b) e among few zero is = is
among_back (true ∷ a) (true ∷ b) e among few (suc k) is =
    among_back a b (omega arith) (λ j. among (suc j))
    (omega (arith, few, ones-cons true a, ones-cons true b)) k is
among_back (true ∷ a) (false ∷ b) e among few (suc k) is = absurd (false≢true (among zero refl))
among_back (false ∷ a) (true ∷ b) e among few (suc k) is =
    absurd (omega (
      arith,
      few,
      ones-cons false a,
      ones-cons true b,
      ones-le-ones a b (omega arith) (λ k. among (suc k)),
    ))
among_back (false ∷ a) (false ∷ b) e among few (suc k) is =
    among_back a b (omega arith) (λ j. among (suc j))
    (omega (arith, few, ones-cons false a, ones-cons false b)) k is

-- bits that say of each number whether it passes a test, with one more set
pub bits-set : (bs : List Bool) (f : ℕ → Bool) (t : ℕ) → t < length bs → ((u : ℕ) → get_or bs u false ≡ f u)
    → (u : ℕ) → get_or (set bs t true) u false ≡ ((t == u) || f u)
bits-set bs f t within bits u =
    elim (cases_Bool (t == u)) [
      | inl e ↦ rw (e, ← eqb-true t u e) (get_or-set_same bs t true false within)
      | inr e ↦
          let ne : u ≡ t → ⊥ = λ s. false≢true (sym e ∙ eq-eqb t u (sym s)) in
          rw (e, get_or-set_other) (bits u)
    ]

-- a bit that is set stands in the list
pub set_within : (bs : List Bool) (t : ℕ) → get_or bs t false ≡ true → t < length bs
set_within bs t is =
    elim (cases_lt t (length bs)) [
      | inl e ↦ e
      | inr e ↦ absurd (false≢true (sym (get_or_past bs t false e) ∙ is))
    ]
