-- No pair that was come to is refused, so the first refusal is one of the rest.
use Rattle.std.proofs.Common.{◌≡◌, take, drop, []}
use Rattle.phase_modes.specs.Refusal.{first_refusal}
use Rattle.world_model.specs.ActConditions.{pair_conditions}
use Rattle.world_model.proofs.Handing.{named_after}
use Rattle.task_standing.specs.inner.Conditions.{facts}
use Rattle.task_standing.proofs.standing.Standing.may_hand_on.Given as goal

abbrev pub invariant-loop-i : goal.invariant-loop-i
invariant-loop-i l =
    first_refusal (pair_conditions (facts l.fn.self) [] l.pairs)
    ≡ first_refusal (pair_conditions (facts l.fn.self) (named_after [] (take l.i l.pairs)) (drop l.i l.pairs))
