use Rattle.phaser_c.specs.LevelCalls.{member_of}
use Rattle.phaser_c.proofs.LevelTasks.{joined_by}
use Rattle.phaser_c.proofs.level_made.join_held.Goals as goal

-- src/level_made.rt
pub returns-in-Some : goal.returns-in-Some
returns-in-Some c =
    joined_by c.args.held.now.member c.in-Some.member c.join_by.new.member (member_of c.args.other.now.state)
    (member_of c.join_by.new.other.state) c.join_by.result c.in-Some.is c.join_by.ensures
