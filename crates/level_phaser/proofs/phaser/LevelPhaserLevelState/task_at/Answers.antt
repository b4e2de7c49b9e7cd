use Rattle.std.specs.Prelude.{slice_get}
use Rattle.std.proofs.Common.{◌≡◌, ℕ, List, Some, refl, subst}
use Rattle.std.proofs.lemmas.Option.{slice_get_read}
use Rattle.level_phaser.proofs.LevelTasks.{level_by}
use Rattle.level_phaser.proofs.Tellings.{among_at}
use Rattle.level_phaser.proofs.phaser.LevelPhaserLevelState.task_at.Goals as goal

pub returns-clause-there : goal.returns-clause-there
returns-clause-there c =
    let d = c.args.self.now in
    let found = c.in-Some.ensures.lookup in
    let at : slice_get d.tasks.items c.args.place ≡ Some c.in-Some.task.now =
    subst (λ (ts : List ℕ). slice_get ts c.args.place ≡ Some c.in-Some.task.now) c.deref.ensures.value
    (slice_get_read c.deref.result.now _ c.args.place c.in-Some.task.now refl found.3.0 found.1) in
    let stand = c.requires.ready.1 in
    (level_by c.args.phase d.tasks.items d.phaser.story stand.level c.in-Some.task.now
    (among_at d.tasks.items c.args.place c.in-Some.task.now at)).live
