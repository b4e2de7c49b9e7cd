use Rattle.std.proofs.Common.{sym}
use Rattle.phaser_c.proofs.LevelTasks.{seen_so}
use Rattle.phaser_c.proofs.level_task.look_at.Goals as goal

-- src/level_task.rt
pub returns-in-Some : goal.returns-in-Some
returns-in-Some c =
    let made = c.in-Some.ensures in
    seen_so c.args.accumulator c.args.value.now c.give_seen.new.value c.args.member.now c.look_at.new.self
    c.give_seen.result c.in-Some.outcome (sym c.if-not-stands.ensures) made.same made.kept c.give_seen.ensures.answer
    c.give_seen.ensures.value made.seen
