use Rattle.phaser_c.specs.LevelCalls.{HasLooked}
use Rattle.phaser_c.proofs.LevelTasks.{called_by}
use Rattle.phaser_c.proofs.level_task.LevelTask.look.Goals as goal

-- src/level_task.rt
pub returns-in-Some : goal.returns-in-Some
returns-in-Some c =
    called_by HasLooked c.args.self.now.member c.in-Some.member c.look.new.member c.look.result c.in-Some.is c.look.ensures
