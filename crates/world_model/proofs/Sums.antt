-- The sum of a phase's values is within what was sent at all.
use Rattle.std.proofs.Common.{ℕ, ◌+◌, ◌==◌, ◌&&◌, true, false, if◌then◌else◌, List, [], ◌∷◌, arith, ℤ, pos, negsuc, ◌+ℤ◌, ◌≤ℤ◌}
use Rattle.std.proofs.lemmas.Int.{ints}
use Rattle.phase_model.specs.declared.history.Event.{Event}
use Rattle.phase_model.specs.declared.history.Event.TheVariants.{Make, Reg, Sig, Claim, Did, Pass, Send, Look, Drop}
use Rattle.phase_model.specs.Phases.{signals}
use Rattle.phase_model.specs.Values.{sent, sum_of}
use Rattle.phase_model.specs.Amounts.{totals, up_of, down_of}

value_high : (v : ℤ) → v ≤ℤ pos (up_of v)
value_high (pos n) = omega (arith, ints)
value_high (negsuc n) = omega (arith, ints)

value_low : (v : ℤ) → pos 0 ≤ℤ (v +ℤ pos (down_of v))
value_low (pos n) = omega (arith, ints)
value_low (negsuc n) = omega (arith, ints)

pub sum_high : (a p : ℕ) (h : List Event) → sum_of (sent a p h) ≤ℤ pos (totals h).up
sum_high a p [] = omega (arith, ints)
sum_high a p (Send t b v ∷ h) =
    elim (b == a && signals t h == p) as (λ c. sum_of (if c then v ∷ sent a p h else sent a p h) ≤ℤ pos (up_of v + (totals h).up)) [
      | true ↦ omega (arith, ints, sum_high a p h, value_high v)
      | false ↦ omega (arith, ints, sum_high a p h)
    ]
sum_high a p (Make t m ∷ h) = omega (arith, ints, sum_high a p h)
sum_high a p (Reg q t m ∷ h) = omega (arith, ints, sum_high a p h)
sum_high a p (Sig t x ∷ h) = omega (arith, ints, sum_high a p h)
sum_high a p (Claim t ∷ h) = omega (arith, ints, sum_high a p h)
sum_high a p (Did t ∷ h) = omega (arith, ints, sum_high a p h)
sum_high a p (Pass t ∷ h) = omega (arith, ints, sum_high a p h)
sum_high a p (Look t b x ∷ h) = omega (arith, ints, sum_high a p h)
sum_high a p (Drop t ∷ h) = omega (arith, ints, sum_high a p h)

pub sum_low : (a p : ℕ) (h : List Event) → pos 0 ≤ℤ (sum_of (sent a p h) +ℤ pos (totals h).down)
sum_low a p [] = omega (arith, ints)
sum_low a p (Send t b v ∷ h) =
    elim (b == a && signals t h == p) as (λ c. pos 0 ≤ℤ (sum_of (if c then v ∷ sent a p h else sent a p h) +ℤ pos (down_of v + (totals h).down))) [
      | true ↦ omega (arith, ints, sum_low a p h, value_low v)
      | false ↦ omega (arith, ints, sum_low a p h)
    ]
sum_low a p (Make t m ∷ h) = omega (arith, ints, sum_low a p h)
sum_low a p (Reg q t m ∷ h) = omega (arith, ints, sum_low a p h)
sum_low a p (Sig t x ∷ h) = omega (arith, ints, sum_low a p h)
sum_low a p (Claim t ∷ h) = omega (arith, ints, sum_low a p h)
sum_low a p (Did t ∷ h) = omega (arith, ints, sum_low a p h)
sum_low a p (Pass t ∷ h) = omega (arith, ints, sum_low a p h)
sum_low a p (Look t b x ∷ h) = omega (arith, ints, sum_low a p h)
sum_low a p (Drop t ∷ h) = omega (arith, ints, sum_low a p h)
