use Rattle.phaser_c.specs.declared.answer.ExportAnswer.TheVariants.{Closed}
use Rattle.phaser_c.proofs.LevelTasks.{ungiven_at}
use Rattle.phaser_c.proofs.level_calls.phaser_c_level_kept.Goals as goal

-- src/level_calls.rt
pub returns-in_default : goal.returns-in_default
returns-in_default c = (
  Closed,
  c.number.ensures,
  ungiven_at c.args.task.now.state c.take.new.self.state c.args.accumulator.now c.args.value.now
      c.in_default.ensures.taken c.take.ensures.closed,
)
