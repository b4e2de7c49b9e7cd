-- What is left of a comparison once one of its outcomes is ruled out.
use Rattle.std.proofs.Common.{◌≡◌, ℕ, ◌<◌, ◌≤◌, ◌==◌, false, refl, arith}
use Rattle.std.specs.Ordering.{MatchOrdering}
use Rattle.std.specs.declared.cmp.Ordering.{Ordering}
use Rattle.std.specs.declared.cmp.Ordering.TheVariants.{Less, Equal, Greater}
use Rattle.std.proofs.lemmas.Bool.{ne_eqb}

-- numbers that don't compare as equal are two
pub other_number : (o : Ordering) (a b : ℕ) → MatchOrdering o (a < b) (a ≡ b) (b < a) → (o ≡ Equal → ⊥)
    → (a == b) ≡ false
other_number Less a b less not_equal = ne_eqb a b (λ same. omega (arith, less, same))
other_number Equal a b same not_equal = absurd (not_equal refl)
other_number Greater a b more not_equal = ne_eqb a b (λ same. omega (arith, more, same))

-- of two numbers that don't compare as less the first isn't below the second
pub no_less : (o : Ordering) (a b : ℕ) → MatchOrdering o (a < b) (a ≡ b) (b < a) → (o ≡ Less → ⊥) → b ≤ a
no_less Less a b less not_less = absurd (not_less refl)
no_less Equal a b same not_less = omega (arith, same)
no_less Greater a b more not_less = omega (arith, more)
