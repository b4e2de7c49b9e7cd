use Rattle.phaser_c.specs.LevelCalls.{HasCome}
use Rattle.phaser_c.proofs.LevelTasks.{called_by}
use Rattle.phaser_c.proofs.level_task.LevelTask.come.Goals as goal

-- src/level_task.rt
pub returns-in-Some : goal.returns-in-Some
returns-in-Some c =
    called_by HasCome c.args.self.now.member c.in-Some.member c.come.new.member c.come.result c.in-Some.is c.come.ensures
