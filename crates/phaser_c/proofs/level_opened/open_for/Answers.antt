use Rattle.std.proofs.Common.{sym}
use Rattle.phaser_c.proofs.LevelOpened.{opened_for}
use Rattle.phaser_c.proofs.level_opened.open_for.Goals as goal

pub returns-in-Ok : goal.returns-in-Ok
returns-in-Ok c =
    let made = c.in-Ok.ensures.opened in
    opened_for c.args.tasks.now c.args.level.now.state c.put.new.self.state c.args.phaser.now.state
    c.take.new.self.state c.in-Some.waiting.value c.in-Ok.held.value (sym c.if-holds_keeper.ensures.one)
    c.in-Some.ensures.taken c.put.ensures c.take.ensures.closed made.0 made.1
