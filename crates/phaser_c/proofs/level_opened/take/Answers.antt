use Rattle.std.proofs.Common.{Some, sym, ap, ◌∙◌}
use Rattle.phaser_c.specs.LevelCalls.{member_of}
use Rattle.phaser_c.specs.declared.level_keeper.LevelKeeper.{LevelKeeper}
use Rattle.phaser_c.proofs.LevelOpened.{taken_by}
use Rattle.phaser_c.proofs.level_opened.take.Goals as goal

pub returns : goal.returns
returns c =
    taken_by c.args.level.now.state c.put.new.self.state c.as_mut.result.now c.take_held-answer.new.held
    (member_of c.args.task.now.state) (member_of c.take_held-answer.new.task.state) c.take_held-answer.result
    (c.in-Some.ensures.taken ∙ ap (λ (k : LevelKeeper). Some k) (sym c.as_mut.ensures.value)) c.put.ensures
    c.take_held-answer.ensures
