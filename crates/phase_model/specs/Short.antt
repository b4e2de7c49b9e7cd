-- Which answers have room in narrow numbers.
use Rattle.std.specs.Prelude.{ℕ, ◌<◌, ◌^◌, ℤ, pos, ◌+ℤ◌, ◌≤ℤ◌, ◌<ℤ◌}
use Rattle.phase_model.specs.declared.op.Look.{Look}
use Rattle.phase_model.specs.declared.op.Look.TheVariants.{Value, Nothing}
use Rattle.phase_model.specs.declared.answer.Passing.{Passing}
use Rattle.phase_model.specs.declared.answer.Passing.TheVariants.{Passed, Claimed, NotYet}

-- a sum is one of 64 bits, with its sign
abbrev pub IsShortLook : Look ℤ → Type 0
IsShortLook (Value v) = (pos 0 ≤ℤ (v +ℤ pos (2 ^ 63))) × (v <ℤ pos (2 ^ 63))
IsShortLook Nothing = Unit {0}

-- a phase is one of 32 bits
abbrev pub IsShortPassing : Passing ℕ → Type 0
IsShortPassing (Passed p) = p < 2 ^ 32
IsShortPassing (Claimed n) = Unit {0}
IsShortPassing NotYet = Unit {0}
