use Rattle.phaser_c.specs.LevelCalls.{HasLeft}
use Rattle.phaser_c.proofs.LevelTasks.{called_by}
use Rattle.phaser_c.proofs.level_task.LevelTask.leave.Goals as goal

-- src/level_task.rt
pub returns-in-Some : goal.returns-in-Some
returns-in-Some c =
    called_by HasLeft c.args.self.now.member c.in-Some.member c.leave.new.member c.leave.result c.in-Some.is c.leave.ensures
