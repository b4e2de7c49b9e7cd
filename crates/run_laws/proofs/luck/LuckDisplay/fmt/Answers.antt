-- What is written is the text of what luck decides.
use Rattle.run_laws.proofs.luck.LuckDisplay.fmt.Goals as goal

pub returns-in-Phaser-clause-writes : goal.returns-in-Phaser-clause-writes
returns-in-Phaser-clause-writes g c = rw c.in-Phaser.is c.write-in-Phaser.ensures.writes

pub returns-in-Child-clause-writes : goal.returns-in-Child-clause-writes
returns-in-Child-clause-writes g c = rw c.in-Child.is c.write-in-Child.ensures.writes

pub returns-in-Finish-clause-writes : goal.returns-in-Finish-clause-writes
returns-in-Finish-clause-writes g c = rw c.in-Finish.is c.write-in-Finish.ensures.writes

pub returns-in-Registered-clause-writes : goal.returns-in-Registered-clause-writes
returns-in-Registered-clause-writes g c = rw c.in-Registered.is c.write-in-Registered.ensures.writes
