use Rattle.std.proofs.Common.{◌≡◌, length}
use Rattle.level_phaser.specs.inner.Tellings.{Tells}
use Rattle.level_phaser.proofs.steps.tell_all.Given as goal

abbrev pub invariant-loop-place : goal.invariant-loop-place
invariant-loop-place g l =
    (l.seat.table_id ≡ l.fn.seat.table_id)
    × (l.seat.me.0 ≡ l.fn.seat.me.0)
    × (k : Tells g.S.LevelState.events g.S.LevelState.registered g.S.LevelState.count g.S.LevelState.width
    g.S.LevelState.tasks g.S.LevelState.ready l.place l.fn.phase l.seat.me)
    × (length (g.S.LevelState.tasks k.begun) ≡ l.count)
