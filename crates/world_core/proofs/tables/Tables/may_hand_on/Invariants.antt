-- No pair that was come to is refused, so the first refusal is one of the rest.
use Rattle.std.proofs.Common.{◌≡◌, take, drop, []}
use Rattle.phase_modes.specs.Refusal.{first_refusal}
use Rattle.world_model.specs.ActConditions.{pair_conditions}
use Rattle.world_model.proofs.Handing.{named_after}
use Rattle.world_records.specs.inner.Facts.{facts}
use Rattle.world_core.proofs.tables.Tables.may_hand_on.Given as goal

abbrev pub invariant-loop-i : goal.invariant-loop-i
invariant-loop-i l =
    first_refusal (pair_conditions (facts l.fn.self l.task) [] l.pairs)
    ≡ first_refusal (pair_conditions (facts l.fn.self l.task) (named_after [] (take l.i l.pairs)) (drop l.i l.pairs))
