use Rattle.phaser_c.proofs.LevelTasks.{seen_by}
use Rattle.phaser_c.proofs.level_task.LevelTask.look_at.Goals as goal

-- src/level_task.rt
pub returns-in-Some : goal.returns-in-Some
returns-in-Some c =
    seen_by c.args.accumulator c.args.self.now.member c.in-Some.member c.look_at.new.member c.args.value.now
    c.look_at.new.value c.look_at.result c.in-Some.is c.look_at.ensures
