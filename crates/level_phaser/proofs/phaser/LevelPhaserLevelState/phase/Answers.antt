use Rattle.std.specs.Prelude.{slice_get}
use Rattle.std.proofs.Common.{◌≡◌, ℕ, List, Some, refl, sym, ap, ◌∙◌, subst}
use Rattle.std.proofs.lemmas.Bool.{false≢true}
use Rattle.std.proofs.lemmas.Option.{slice_get_read}
use Rattle.level_phaser.specs.Rounds.{is_level}
use Rattle.level_phaser.proofs.LevelTasks.{each_level, level_by}
use Rattle.level_phaser.proofs.Tellings.{among_at}
use Rattle.level_phaser.proofs.phaser.LevelPhaserLevelState.phase.Goals as goal

pub returns-in-Some-registration-clause-there : goal.returns-in-Some-registration-clause-there
returns-in-Some-registration-clause-there c p ready t among =
    let d = c.args.self.now in (level_by p d.tasks.items d.phaser.story ready.1.level t among).live

pub returns-in-None-clause-phase : goal.returns-in-None-clause-phase
returns-in-None-clause-phase c p ready some =
    let d = c.args.self.now in
    let found = c.in-Some.ensures.lookup in
    let at : slice_get d.tasks.items 0 ≡ Some c.in-Some.first.now =
    subst (λ (ts : List ℕ). slice_get ts 0 ≡ Some c.in-Some.first.now) c.deref.ensures.value
    (slice_get_read c.deref.result.now _ 0 c.in-Some.first.now refl found.3.0 found.1) in
    let level = each_level p d.tasks.items d.phaser.story ready.1.level c.in-Some.first.now
    (among_at d.tasks.items 0 c.in-Some.first.now at) in
    absurd (false≢true (sym (ap (is_level p) (sym c.registration.ensures ∙ c.in-None.is)) ∙ level))
