use Rattle.std.proofs.Common.{◌+◌, sym}
use Rattle.phase_modes.specs.declared.refusal.Refusal.TheVariants.{NotExplained}
use Rattle.phase_model.proofs.Verdicts.{verdict_of_whole}
use Rattle.phase_model.proofs.verdict.verdict_of.Goals as goal

pub returns-then-not-is_allowed_at : goal.returns-then-not-is_allowed_at
returns-then-not-is_allowed_at c =
    let s = c.args.history.now in
    let xs = c.events-events.result.now in
    let step =
    rw (c.limits.ensures.limits, c.terms.ensures, c.if-not-is_allowed_at.true) at c.is_allowed_at.ensures in
    rw (← c.events-events.ensures.events)
    (sym (verdict_of_whole s.limits s.terms xs (c.loop-i.i + 1) (NotExplained (c.loop-i.i + 1))
    (step c.loop-i.invariant)))
