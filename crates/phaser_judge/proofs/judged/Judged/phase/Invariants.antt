use Rattle.std.proofs.Common.{◌≡◌, max, drop}
use Rattle.phaser_judge.specs.Courses.{first_phase}
use Rattle.phaser_judge.proofs.judged.Judged.phase.Given as goal

abbrev pub invariant-loop-number : goal.invariant-loop-number
invariant-loop-number l =
    max l.phase (first_phase l.self.story.past (drop l.number-index l.number-items)) ≡ first_phase l.self.story.past l.number-items
