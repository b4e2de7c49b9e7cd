-- The phaser and the task of the event are asked by their numbers.
use Rattle.std.proofs.Common.{ap, rules, ◌≡◌, ◌∙◌}
use Rattle.phase_model.specs.Waiting.{signal_would_wait, would_wait}
use Rattle.world_records.specs.Kept.{story_at}
use Rattle.world_core.proofs.tables.Tables.waits.Goals as goal

pub returns-in-Some-Phaser-default-Pass : goal.returns-in-Some-Phaser-default-Pass
returns-in-Some-Phaser-default-Pass c =
    let of = c.in-Some-Phaser-default-Pass in
    let asked : c.would_wait.result ≡ would_wait (story_at c.args.self.now of.phaser) of.task =
    c.would_wait.ensures
    ∙ ap (λ n. would_wait (story_at c.args.self.now n) c.of-in-Some-Phaser-default-Pass.result) c.of.ensures
    ∙ ap (λ t. would_wait (story_at c.args.self.now of.phaser) t) c.of-in-Some-Phaser-default-Pass.ensures in
    search (rules, asked)

pub returns-in-Some-Phaser-default-Sig : goal.returns-in-Some-Phaser-default-Sig
returns-in-Some-Phaser-default-Sig c =
    let of = c.in-Some-Phaser-default-Sig in
    let asked : c.signal_would_wait.result ≡ signal_would_wait (story_at c.args.self.now of.phaser) of.task of.number =
    c.signal_would_wait.ensures
    ∙ ap (λ n. signal_would_wait (story_at c.args.self.now n) c.of-in-Some-Phaser-default-Sig-2.result of.number) c.of-in-Some-Phaser-default-Sig.ensures
    ∙ ap (λ t. signal_would_wait (story_at c.args.self.now of.phaser) t of.number) c.of-in-Some-Phaser-default-Sig-2.ensures in
    search (rules, asked)
