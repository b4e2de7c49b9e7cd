use Rattle.phase_model.specs.Rules.{no_terms}
use Rattle.phaser_cell.proofs.Written.{fresh_is_kept}
use Rattle.phaser_cell.proofs.cell.PhaserCell.new.Goals as goal

pub invariant_of-result-clause-kept : goal.invariant_of-result-clause-kept
invariant_of-result-clause-kept g c =
    fresh_is_kept c.args.limits no_terms c.in_ok-state.state.story c.args.book c.in_ok-parked.parked.items c.requires.limits c.in_ok-state.ensures.empty c.requires.fresh.0 c.requires.fresh.1 c.in_ok-parked.ensures.items
