use Rattle.std.proofs.Common.{w32}
use Rattle.std.proofs.lemmas.Int.{to_z-of_z}
use Rattle.phaser_c.specs.LevelCalls.{HasSent}
use Rattle.phaser_c.proofs.LevelTasks.{called_by}
use Rattle.phaser_c.proofs.level_task.LevelTask.send.Goals as goal

-- src/level_task.rt
pub returns-in-Some : goal.returns-in-Some
returns-in-Some c =
    let round = to_z-of_z w32 c.args.value c.ranges.value in
    called_by (HasSent c.args.accumulator c.args.value) c.args.self.now.member c.in-Some.member c.send.new.member
    c.send.result c.in-Some.is (rw round at c.send.ensures)
