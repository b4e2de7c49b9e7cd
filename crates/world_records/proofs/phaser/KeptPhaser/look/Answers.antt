-- The stored phaser is asked by the task's number.
use Rattle.world_records.proofs.phaser.KeptPhaser.look.Goals as goal

pub returns-clause-reply : goal.returns-clause-reply
returns-clause-reply c = rw (c.get.ensures, c.self.view_is) at c.look.ensures.reply

pub returns-clause-history : goal.returns-clause-history
returns-clause-history c = rw (c.get.ensures, c.self.view_is) at c.look.ensures.history
