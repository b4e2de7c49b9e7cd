use Rattle.std.proofs.Common.{ap, ◌∙◌}
use Rattle.phase_model.specs.Waiting.{would_wait}
use Rattle.phaser_core.proofs.asked.PhaserStateAsked.waits_to_pass.Goals as goal

pub returns-in-Some : goal.returns-in-Some
returns-in-Some c = c.would_wait.ensures ∙ ap (λ t. would_wait c.args.self.now.story t) c.in-Some.ensures.same
