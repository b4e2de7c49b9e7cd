use Rattle.phaser_c.proofs.checker.phaser_c_events.Goals as goal

-- src/checker.rt
pub returns : goal.returns
returns c = (c.answered.result, c.answered.ensures, c.hand.ensures)
