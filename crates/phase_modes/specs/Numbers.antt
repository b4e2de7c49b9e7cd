-- Sets of numbers, and the bits that keep them.
use Rattle.std.specs.Prelude.{ℕ, ◌/◌, ◌%◌, ◌==◌, Bool, List, slice_index}
use Rattle.std.specs.Int.{bit_at}

-- a set of numbers below a size, with 64 bits in each word
pub record Numbers : Type 0 where
  pub size : ℕ
  pub words : List ℕ

-- n is in the set: its bit is set
abbrev pub has_number : Numbers → ℕ → Bool
has_number s n = bit_at (slice_index s.words (n / 64)) (n % 64) == 1
