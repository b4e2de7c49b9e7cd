-- The mode is asked of the trace by the task's number.
use Rattle.std.proofs.Common.{ap, rules, take, ◌≡◌, ◌∙◌}
use Rattle.trace_walk.specs.History.{history}
use Rattle.trace_walk.specs.inner.Holding.{mode_on}
use Rattle.trace_walk.proofs.phasers_held.pair_by.Goals as goal

pub returns-in_err-mode : goal.returns-in_err-mode
returns-in_err-mode c =
    let w = history (take c.args.count c.args.trace.now.events) in
    let mode : c.mode_on.result ≡ mode_on c.args.task c.in_ok-phaser.phaser w =
    c.mode_on.ensures ∙ ap (λ t. mode_on t c.in_ok-phaser.phaser w) c.of.ensures in
    search (rules, mode)

pub returns : goal.returns
returns c =
    let w = history (take c.args.count c.args.trace.now.events) in
    let mode : c.mode_on.result ≡ mode_on c.args.task c.in_ok-phaser.phaser w =
    c.mode_on.ensures ∙ ap (λ t. mode_on t c.in_ok-phaser.phaser w) c.of.ensures in
    search (rules, mode)
