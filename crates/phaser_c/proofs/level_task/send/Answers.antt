use Rattle.std.proofs.Common.{w32, sym}
use Rattle.std.proofs.lemmas.Int.{to_z-of_z}
use Rattle.phaser_c.proofs.LevelTasks.{sent_so}
use Rattle.phaser_c.proofs.level_task.send.Goals as goal

-- src/level_task.rt
pub returns-in-Some : goal.returns-in-Some
returns-in-Some c =
    let round = to_z-of_z w32 c.args.value c.ranges.value in
    let made = c.in-Some.ensures in
    sent_so c.args.accumulator c.args.value c.args.member.now c.send.new.self c.answer_done.result c.in-Some.outcome
    (sym c.if-not-stands.ensures) (made.same.1, made.same.0) made.stage made.same.2 c.answer_done.ensures
    (rw round at made.sent)
