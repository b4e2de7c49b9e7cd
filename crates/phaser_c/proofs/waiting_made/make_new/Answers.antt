use Rattle.phaser_c.specs.WaitingGiven.{long_story_given}
use Rattle.phaser_c.proofs.GoneOn.{made_of}
use Rattle.phaser_c.proofs.waiting_made.make_new.Goals as goal

-- src/waiting_made.rt
pub returns-in-Ok : goal.returns-in-Ok
returns-in-Ok c =
    made_of c.args.phaser.now.state c.put-in-Ok.new.self.state (long_story_given c.args.operators.now c.args.bound)
    c.in-Ok.state.value (c.in_default.ensures.taken) c.put-in-Ok.ensures c.in-Ok.ensures.made
