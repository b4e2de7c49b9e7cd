-- The root before the first event, and a child at its birth.
use Rattle.std.proofs.Common.{refl}
use Rattle.task_standing.specs.Laws.{RootsStartFresh}

pub roots_start_fresh : RootsStartFresh
roots_start_fresh = record { of = record { holding = refl; finishes = refl; home = refl; acts = refl }; due_is = refl }
