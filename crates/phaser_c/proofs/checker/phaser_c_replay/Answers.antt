use Rattle.phaser_c.proofs.checker.phaser_c_replay.Goals as goal

-- src/checker.rt
pub returns : goal.returns
returns c = (c.replayed.result, c.replayed.ensures, c.hand.ensures)
