use Rattle.std.proofs.Common.{◌≡◌}
use Rattle.level_phaser.specs.inner.Foldings.{Folding, HasOnly}
use Rattle.level_phaser.proofs.folds.write_folds.Given as goal

abbrev pub invariant-loop-accumulator : goal.invariant-loop-accumulator
invariant-loop-accumulator g l =
    (l.seat.table_id ≡ l.fn.seat.table_id)
    × Folding g.S.LevelState.events g.S.LevelState.registered g.S.LevelState.count g.S.LevelState.width
    g.S.LevelState.replies g.S.LevelState.ready l.width l.accumulator l.fn.phase l.seat.me
    × HasOnly l.fn.seat.me.0 l.seat.me.0
