-- Plain facts of numbers and conditions, which many of these proofs need.
use Rattle.std.proofs.Common.{◌≡◌, ℕ, ◌+◌, ◌<◌, ◌≤◌, ◌==◌, min, Bool, true, false, cond, arith}

pub one_at_most : (b : Bool) → cond b 1 0 ≤ 1
one_at_most true = omega arith
one_at_most false = omega arith

pub swapped : (x y : ℕ) → (x == y) ≡ false → (y == x) ≡ false
swapped x y h = grind arith

pub next_not_zero : (x : ℕ) → x + 1 ≡ 0 → ⊥
next_not_zero x h = absurd (omega (arith, h))

-- within 16 places no step reaches the greatest number
pub next_fits : (i j : ℕ) → i < j → j ≤ 16 → min (i + 1) 4294967295 ≡ i + 1
next_fits i j h g = omega (arith, h, g)
