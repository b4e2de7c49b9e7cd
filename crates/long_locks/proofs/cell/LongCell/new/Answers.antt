use Rattle.std.proofs.Common.{ap}
use Rattle.phase_modes.specs.Limits.{is_between}
use Rattle.phase_model.specs.Rules.{Story}
use Rattle.phaser_core.proofs.Steps.{fresh_is_settled}
use Rattle.long_locks.proofs.cell.LongCell.new.Goals as goal

pub invariant_of-result-clause-kept : goal.invariant_of-result-clause-kept
invariant_of-result-clause-kept g c =
    let empty = c.in_ok-state.ensures.empty in
    fresh_is_settled c.in_ok-state.state.story c.in_ok-parked.parked.items
    (ap (λ (v : Story). is_between 1 v.limits.regs 256) empty)
    (ap (λ (v : Story). v.past) empty) c.in_ok-parked.ensures.items
