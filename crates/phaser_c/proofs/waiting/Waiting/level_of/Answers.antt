use Rattle.std.proofs.Common.{sym, ◌∙◌}
use Rattle.phaser_c.proofs.Rounds.{none_level}
use Rattle.phaser_c.proofs.waiting.Waiting.level_of.Goals as goal

-- src/waiting_rounds.rt
pub returns-in_err-phase : goal.returns-in_err-phase
returns-in_err-phase c =
    c.from_residual-in_err-phase.ensures
    ∙ sym (none_level c.in_ok-first.first.now c.args.tasks.now c.args.self.now.cell (sym c.in_ok-first.ensures.value)
    (sym c.registration.ensures ∙ c.in_err-phase.was))
