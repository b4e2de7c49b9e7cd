-- One finish more.
use Rattle.std.proofs.Common.{◌∙◌, ◌<◌, length, arith}
use Rattle.world_records.proofs.Listed.{opened_more}
use Rattle.world_core.proofs.report_rows.finish_rows.Goals as goal

pub loop-number-preserved : goal.loop-number-preserved
loop-number-preserved c =
    let within : c.loop-number.number < length c.args.finishes.now = omega (arith, c.loop-number-test.true, c.requires) in
    record {
      lines = c.add_finish.ensures.rows
          ∙ opened_more c.args.finishes.now c.loop-number.number c.index-finishes-number.result c.loop-number.rows.items within c.index-finishes-number.is c.loop-number.invariant.lines;
      size = omega (arith, c.add_finish.ensures.size, c.loop-number.invariant.size);
      room = omega (arith, c.add_finish.ensures.room, c.loop-number.invariant.room);
    }
