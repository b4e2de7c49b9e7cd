-- The worked example, computed.
use Rattle.std.proofs.Common.{refl}
use Rattle.task_standing.specs.Examples.{HalfATurn}

pub half_a_turn : HalfATurn
half_a_turn = (
  refl,
  record { of = record { holding = refl; finishes = refl; home = refl; acts = refl }; due_is = refl },
  refl,
  refl,
)
