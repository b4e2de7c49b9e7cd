-- What one bit more leaves of all others.
use Rattle.std.proofs.Common.{◌≡◌, ℕ, ◌*◌, ◌/◌, ◌%◌, ◌^◌, ◌<◌, ◌==◌, ◌||◌, List, length, set, get_or, w64, refl, sym, ◌∙◌, arith, inl, inr}
use Rattle.std.specs.Int.{bit_at}
use Rattle.std.specs.Int.Bits.{bit_or}
use Rattle.std.proofs.lemmas.Bool.{cases_Bool, eqb-true, eq-eqb, false≢true}
use Rattle.std.proofs.lemmas.List.{get_or-set_same, get_or-set_other}
use Rattle.std.proofs.lemmas.Nat.Bits.{bit_at_set_same, bit_at_set_other}

pub bit_set : (ws : List ℕ) (k n word : ℕ) → k / 64 < length ws → word ≡ get_or ws (k / 64) 0
    → (bit_at (get_or (set ws (k / 64) (bit_or word (1 * 2 ^ (k % 64) % 18446744073709551616))) (n / 64) 0)
    (n % 64) == 1) ≡ (k == n || bit_at (get_or ws (n / 64) 0) (n % 64) == 1)
bit_set ws k n word inside is =
    let new = bit_or word (1 * 2 ^ (k % 64) % 18446744073709551616) in
    elim (cases_Bool (k == n)) [
      | inl e ↦
          let same : k ≡ n = eqb-true k n e in
          let now : get_or (set ws (k / 64) new) (k / 64) 0 ≡ new =
          get_or-set_same ws (k / 64) new 0 inside in
          let bit : bit_at new (k % 64) ≡ 1 = bit_at_set_same w64 word (k % 64) (omega arith) in
          rw (e, ← same, now, bit) refl
      | inr e ↦
          let apart : k ≡ n → ⊥ = λ d. false≢true (sym e ∙ eq-eqb k n d) in
          elim (cases_Bool (k / 64 == n / 64)) [
            | inl f ↦
                let place : k / 64 ≡ n / 64 = eqb-true (k / 64) (n / 64) f in
                let other : n % 64 ≡ k % 64 → ⊥ = λ d. apart (omega (arith, d, place)) in
                let now : get_or (set ws (k / 64) new) (k / 64) 0 ≡ new =
                get_or-set_same ws (k / 64) new 0 inside in
                let bit : bit_at new (n % 64) ≡ bit_at word (n % 64) =
                bit_at_set_other w64 word (k % 64) (omega arith) (n % 64) other in
                rw (e, ← place, now, bit, is) refl
            | inr f ↦
                let away : n / 64 ≡ k / 64 → ⊥ = λ d. false≢true (sym f ∙ eq-eqb (k / 64) (n / 64) (sym d)) in
                rw (e, get_or-set_other ws (k / 64) (n / 64) new 0 away) refl
          ]
    ]
