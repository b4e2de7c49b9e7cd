use Rattle.std.proofs.Common.{◌≡◌, ◌++◌, drop}
use Rattle.phaser_judge.specs.Owing.{owing}
use Rattle.phaser_judge.proofs.judged.Judged.owing_to.Given as goal

-- those so far, and those of the tasks that are left
abbrev pub invariant-loop-name : goal.invariant-loop-name
invariant-loop-name l =
    l.owing.tasks.items ++ owing l.phase l.self.story.past (drop l.name-index l.name-items)
    ≡ owing l.phase l.self.story.past l.name-items
