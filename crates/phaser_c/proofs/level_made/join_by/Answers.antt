use Rattle.std.proofs.Common.{sym}
use Rattle.phaser_c.specs.LevelCalls.{member_of}
use Rattle.phaser_c.proofs.LevelTasks.{has_joined}
use Rattle.phaser_c.proofs.level_made.join_by.Goals as goal

-- src/level_made.rt
pub returns : goal.returns
returns c =
    has_joined c.args.member.now c.join.new.self c.in-Some.child (member_of c.args.other.now.state)
    (member_of c.put_in.new.task.state) (sym c.if-holds_one.ensures.one) c.put_in.ensures
    (sym c.if-not-stands.ensures) (c.in-Some.ensures.same, c.in-Some.ensures.this) c.in-Some.ensures.other
