use Rattle.std.proofs.Common.{sym, ap}
use Rattle.phaser_c.specs.WaitingGiven.{long_story_given}
use Rattle.phaser_c.specs.LevelCalls.{member_of}
use Rattle.phaser_c.proofs.LevelTasks.{made_first, not_made, or_kept}
use Rattle.phaser_c.proofs.level_made.make_new.Goals as goal

-- src/level_made.rt
pub returns-in-Ok : goal.returns-in-Ok
returns-in-Ok c =
    made_first (member_of c.args.task.now.state) (member_of c.put_first.new.task.state)
    (long_story_given c.args.operators.now c.args.bound) c.in-Ok.member c.put_first.result
    (sym c.if-holds_one.ensures.one) c.in-Ok.ensures.made
    (or_kept c.args.task.now.state c.holds_one.new.task.state c.put_first.new.task.state c.in-Ok.member
    c.put_first.result c.holds_one.ensures.kept c.put_first.ensures)

-- src/level_made.rt
pub returns-in-Err : goal.returns-in-Err
returns-in-Err c =
    not_made (member_of c.args.task.now.state) (member_of c.holds_one.new.task.state)
    (long_story_given c.args.operators.now c.args.bound) c.in-Err.answer (sym c.if-holds_one.ensures.one)
    (ap member_of c.holds_one.ensures.kept) c.in-Err.ensures.refused
