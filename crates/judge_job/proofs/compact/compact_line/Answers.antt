use Rattle.judge_job.proofs.Spelled.{line_spelled}
use Rattle.judge_job.proofs.compact.compact_line.Goals as goal

pub returns : goal.returns
returns c =
    let ticket = c.in_ok-ticket.ensures in
    let phaser = c.in_ok-phaser.ensures in
    line_spelled c.args.bytes.now _ _ _ _ _ _ _ ticket.fits phaser.fits c.in_ok-after.ensures ticket.written c.in_ok-after-2.ensures phaser.written
    c.in_ok-event.ensures
