-- The stored phaser is asked by the task's number.
use Rattle.std.proofs.Common.{◌≡◌}
use Rattle.phase_model.specs.Waiting.{would_wait}
use Rattle.world_records.proofs.phaser.KeptPhaser.would_wait.Goals as goal

pub returns : goal.returns
returns c =
    let answered : c.would_wait.result ≡ would_wait c.self.inside.state.story c.get.result = c.would_wait.ensures in
    rw (c.get.ensures, c.self.view_is) at answered
