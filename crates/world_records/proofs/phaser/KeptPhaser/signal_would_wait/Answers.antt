-- The stored phaser is asked by the task's number.
use Rattle.std.proofs.Common.{ap, ◌∙◌}
use Rattle.phase_model.specs.Rules.{Story}
use Rattle.phase_model.specs.Waiting.{signal_would_wait}
use Rattle.world_records.proofs.phaser.KeptPhaser.signal_would_wait.Goals as goal

pub returns : goal.returns
returns c =
    c.signal_would_wait.ensures
    ∙ ap (λ t. signal_would_wait c.self.inside.state.story t c.args.number) c.get.ensures
    ∙ ap (λ (s : Story). signal_would_wait s c.args.task c.args.number) c.self.view_is
