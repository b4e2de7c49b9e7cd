use Rattle.std.proofs.Common.{rules, ◌≡◌, ℕ, [], List, sym, subst}
use Rattle.level_phaser.specs.LevelPhasers.{IsReady}
use Rattle.level_phaser.proofs.Joins.{none_yet}
use Rattle.level_phaser.proofs.phaser.LevelPhaser.new.Goals as goal

pub returns-clause-ready : goal.returns-clause-ready
returns-clause-ready c =
    let none : c.in-Ok.tasks.items ≡ [] = search rules in
    let empty : c.in_ok-phaser.phaser.story.past ≡ [] = search rules in
    subst (λ (ts : List ℕ). IsReady 0 ts c.in_ok-phaser.phaser.story) (sym none) (none_yet c.in_ok-phaser.phaser.story empty)
