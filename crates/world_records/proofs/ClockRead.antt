-- The clock that is kept is the history's, since no legal world's clock passes what its type holds.
use Rattle.std.proofs.Common.{◌≡◌, ℕ, ◌≤◌, min, List, ◌∙◌, arith}
use Rattle.world_model.specs.declared.event.WorldEvent.{WorldEvent}
use Rattle.world_model.specs.Clock.{clock}
use Rattle.world_model.proofs.ClocksFit.{clocks_fit}
use Rattle.world_records.specs.WorldState.{WorldState}
use Rattle.world_records.specs.Kept.{task_at}
use Rattle.world_records.specs.StandsFor.{StandsFor}

below : (n : ℕ) → n ≤ 268435456 → min n 4294967295 ≡ n
below n e = omega (arith, e)

pub clock_is : (s : WorldState) (t : ℕ) (w : List WorldEvent) → StandsFor w s → (task_at s t).clock ≡ clock t w
clock_is s t w st = (st.tasks t).clock ∙ below (clock t w) (clocks_fit s.limits w st.legal st.fit t).1
