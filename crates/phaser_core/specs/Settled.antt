-- What stands behind a phaser's lock, each time that the lock is free.
use Rattle.std.specs.Prelude.{◌≡◌, true, List}
use Rattle.phase_modes.specs.Limits.{is_between}
use Rattle.phase_model.specs.Ordering.{IsOrdered}
use Rattle.phase_model.specs.Rules.{Story, is_legal}
use Rattle.phaser_core.specs.declared.parked.Parked.{Parked}
use Rattle.phaser_core.specs.Parking.{all_wait, are_parked_once}

-- there is room for 256 registrations at most; the history is legal and ordered; who is parked would still be
-- answered `NotYet` to the call for which it is parked, and is parked once
pub record IsSettled {T : Type 0} (s : Story) (parked : List (Parked T)) : Type 0 where
  pub regs : is_between 1 s.limits.regs 256 ≡ true
  pub legal : is_legal s.limits s.terms s.past ≡ true
  pub ordered : IsOrdered s.past
  pub waiting : all_wait s parked ≡ true
  pub once : are_parked_once parked ≡ true
