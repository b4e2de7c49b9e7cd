use Rattle.phaser_c.proofs.LevelTasks.{given_by}
use Rattle.phaser_c.proofs.level_task.LevelTask.give_kept.Goals as goal

-- src/level_task.rt
pub returns-in-Some : goal.returns-in-Some
returns-in-Some c =
    given_by c.args.self.now.member c.in-Some.member c.give_kept.new.member c.args.accumulator.now
    c.give_kept.new.accumulator c.args.value.now c.give_kept.new.value c.give_kept.result c.in-Some.is
    c.give_kept.ensures
