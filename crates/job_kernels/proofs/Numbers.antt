-- Plain facts of numbers, which many of these proofs need.
use Rattle.std.proofs.Common.{◌≡◌, ℕ, suc, ◌+◌, ◌-◌, ◌<◌, ◌≤◌, max, arith}

pub zero_plus : (x : ℕ) → 0 + x ≡ x
zero_plus x = omega arith

pub plus_zero : (x : ℕ) → x + 0 ≡ x
plus_zero x = omega arith

pub from_plus_zero : (x : ℕ) → x ≡ x + 0
from_plus_zero x = omega arith

pub zero_least : (x : ℕ) → 0 ≤ x
zero_least x = omega arith

pub le_self : (x : ℕ) → x ≤ x
le_self x = omega arith

pub le_next : (x : ℕ) → x ≤ x + 1
le_next x = omega arith

pub lt_next : (x y : ℕ) → x < y → x < y + 1
lt_next x y h = omega arith

pub same_lt_next : (x y : ℕ) → y ≡ x → x < y + 1
same_lt_next x y h = omega arith

pub part_le : (x y z : ℕ) → x + y ≡ z → x ≤ z
part_le x y z h = omega arith

pub right_part_le : (x y : ℕ) → y ≤ x + y
right_part_le x y = omega arith

pub next_on : (x y z : ℕ) → x + suc y ≡ z → (x + 1) + y ≡ z
next_on x y z h = omega arith

pub next_on_lt : (x y z : ℕ) → x < y + suc z → x < (y + 1) + z
next_on_lt x y z h = omega arith

pub none_below_zero : (x : ℕ) → x < 0 → ⊥
none_below_zero x h = omega arith

pub no_next_le_zero : (x : ℕ) → suc x ≤ 0 → ⊥
no_next_le_zero x h = omega arith

pub next_not_zero : (x : ℕ) → x + 1 ≡ 0 → ⊥
next_not_zero x h = omega arith

pub not_its_next : (x : ℕ) → x ≡ suc x → ⊥
not_its_next x h = omega arith

pub same_not_lt : (x y : ℕ) → x ≡ y → y < x → ⊥
same_not_lt x y h k = omega arith

pub lt_not_same : (x y : ℕ) → x < y → y ≡ x → ⊥
lt_not_same x y h k = omega arith

pub le_not_lt : (x y : ℕ) → y ≤ x → x < y + 0 → ⊥
le_not_lt x y h k = omega arith

pub apart_next_le : (x y : ℕ) → (y ≡ x → ⊥) → y ≤ x → y + 1 ≤ x
apart_next_le x y h k = grind (arith, h)

pub le_apart_next_le : (x y : ℕ) → y ≤ x → (y ≡ x → ⊥) → y + 1 ≤ x
le_apart_next_le x y h k = grind (arith, k)

pub lt_le : (x y z : ℕ) → x < y → y ≤ z → x < z
lt_le x y z h k = omega arith

pub next_le_lt : (x y z : ℕ) → y ≡ x + 1 → y ≤ z → x < z
next_le_lt x y z h k = omega arith

pub lt_next_le : (x y : ℕ) → x < y → suc x ≤ y
lt_next_le x y h = omega arith

pub le_without_one : (x y : ℕ) → suc x ≤ suc y → x ≤ y
le_without_one x y h = omega arith

pub le_both_ways : (x y : ℕ) → x ≤ y → y ≤ x → x ≡ y
le_both_ways x y h k = omega arith

pub lt_zero_plus : (x y : ℕ) → x < y → x < 0 + y
lt_zero_plus x y h = omega arith

pub without_zero : (x y : ℕ) → x + 0 ≡ y → x ≡ y
without_zero x y h = omega arith

pub without_none : (x y z : ℕ) → x + y ≡ z → y ≡ 0 → x ≡ z
without_none x y z h k = omega arith

pub max_right_le : (x y z : ℕ) → max x y ≤ z → y ≤ z
max_right_le x y z h = omega arith

pub next_less_one : (x : ℕ) → (x + 1) - 1 ≡ x
next_less_one x = omega arith
