use Rattle.std.proofs.Common.{w32}
use Rattle.std.proofs.lemmas.Int.{to_z-of_z}
use Rattle.world_records.proofs.SendMade.{send_is_step}
use Rattle.world_core.proofs.tables.Tables.step_send.Goals as goal

pub returns : goal.returns
returns c =
    let round = to_z-of_z w32 c.args.value c.ranges.value in
    rw (c.send_value.ensures.answer, c.send_value.ensures.state, round) (send_is_step c.args.self.now c.args.phaser c.args.task c.args.accumulator c.args.value)
