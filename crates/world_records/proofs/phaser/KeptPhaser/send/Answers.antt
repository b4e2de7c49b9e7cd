-- The stored phaser is asked by the task's number.
use Rattle.std.proofs.Common.{w32}
use Rattle.std.proofs.lemmas.Int.{to_z-of_z}
use Rattle.world_records.proofs.phaser.KeptPhaser.send.Goals as goal

pub returns-clause-reply : goal.returns-clause-reply
returns-clause-reply c =
    let round = to_z-of_z w32 c.args.value c.ranges.value in
    rw (c.get.ensures, round, c.self.view_is) at c.send.ensures.reply

pub returns-clause-history : goal.returns-clause-history
returns-clause-history c =
    let round = to_z-of_z w32 c.args.value c.ranges.value in
    rw (c.get.ensures, round, c.self.view_is) at c.send.ensures.history
