use Rattle.std.proofs.Common.{sym}
use Rattle.phaser_c.specs.LevelCalls.{member_of}
use Rattle.phaser_c.proofs.LevelOpened.{has_taken}
use Rattle.phaser_c.proofs.level_opened.take_held.Goals as goal

pub returns : goal.returns
returns c =
    let made = c.in-Some.ensures in
    has_taken c.args.held.now c.take.new.self (member_of c.args.task.now.state) (member_of c.put_in.new.task.state)
    c.in-Some.member (sym c.if-holds_one.ensures.one) c.put_in.ensures made.0 made.1.0 made.1.1 made.1.2
