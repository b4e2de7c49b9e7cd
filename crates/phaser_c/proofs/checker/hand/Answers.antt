use Rattle.std.proofs.Common.{◌≡◌, ℕ, List, sym, subst, ◌∙◌}
use Rattle.job_ends.specs.declared.failure.Failure.TheVariants.{Refused}
use Rattle.job_ends.specs.Ends.{failure_line}
use Rattle.job_ends.proofs.Reported.{memory_line}
use Rattle.phase_modes.specs.declared.refusal.Refusal.TheVariants.{Memory}
use Rattle.phaser_c.specs.Checked.{IsHanded, if_told}
use Rattle.phaser_c.specs.Told.{IsTold}
use Rattle.phaser_c.specs.declared.checker.Checked.{Checked as Outcome}
use Rattle.phaser_c.proofs.checker.hand.Goals as goal

-- src/checker.rt
pub returns-in-Lacking : goal.returns-in-Lacking
returns-in-Lacking c =
    let give = c.give-in-Lacking in
    let line : c.as_bytes.result.now ≡ failure_line (Refused Memory) = c.as_bytes.ensures.value ∙ memory_line in
    subst (λ (x : Outcome). IsHanded x c.args.room.now give.new.room give.new.written give.result) (sym c.in-Lacking.is)
    (subst (λ (text : List ℕ). IsTold text c.args.room.now give.new.room give.new.written
    × (give.result ≡ if_told text c.args.room.now 1)) line (give.ensures.told, give.ensures.number))
