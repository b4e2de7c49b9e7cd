-- One task more.
use Rattle.std.proofs.Common.{◌∙◌, ◌<◌, length, arith}
use Rattle.world_records.proofs.Listed.{born_more}
use Rattle.world_core.proofs.report_rows.task_rows.Goals as goal

pub loop-number-preserved : goal.loop-number-preserved
loop-number-preserved c =
    let within : c.loop-number.number < length c.args.tasks.now = omega (arith, c.loop-number-test.true, c.requires) in
    record {
      lines = c.add_task.ensures.rows
          ∙ born_more c.args.tasks.now c.loop-number.number c.index-tasks-number.result c.loop-number.rows.items within c.index-tasks-number.is c.loop-number.invariant.lines;
      size = omega (arith, c.add_task.ensures.size, c.loop-number.invariant.size);
      room = omega (arith, c.add_task.ensures.room, c.loop-number.invariant.room);
    }
