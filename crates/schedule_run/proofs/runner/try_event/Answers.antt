use Rattle.std.proofs.Common.{◌≡◌, false, sym, ◌∙◌}
use Rattle.std.proofs.lemmas.Bool.{true≢false}
use Rattle.world_model.specs.Replies.{is_made, reply}
use Rattle.schedule_run.specs.declared.record.Outcome.TheVariants.{Made}
use Rattle.schedule_run.specs.inner.Records.{outcome_of}
use Rattle.schedule_run.proofs.Noted.{kept_made, kept_unmade}
use Rattle.schedule_run.proofs.Picking.{is_kept, is_unmade}
use Rattle.schedule_run.proofs.runner.try_event.Goals as goal
use Rattle.schedule_run.proofs.runner.try_event.Goals.{in-Made, in_default}

pub returns-then-matches-clause-kept : goal.returns-then-matches-clause-kept
returns-then-matches-clause-kept c l w kept own =
    let e = c.args.event.now in
    let made : c.in_ok-outcome.outcome ≡ Made = elim c.match-matches.branch [ in-Made v ↦ v.in-Made.is | in_default v ↦ absurd (true≢false (sym c.if-matches.true ∙ v.matches-is)) ] in
    let known : Made ≡ outcome_of (reply l w e) = sym made ∙ c.in_ok-outcome.ensures.outcome l w kept.recorded in
    kept_made l w e c.make.new.self c.renew.new.self (is_kept (reply l w e) known) (c.in_ok-outcome.ensures.stands l w kept.recorded)
    (λ long. c.renew.ensures.stand l w c.args.task (c.forget.ensures.stand l w kept.noted) c.forget.ensures.none own (c.len.ensures.length ∙ long))

pub returns-else-matches-clause-kept : goal.returns-else-matches-clause-kept
returns-else-matches-clause-kept c l w kept own =
    let e = c.args.event.now in
    let other : c.in_ok-outcome.outcome ≡ Made → ⊥ = elim c.match-matches.branch [ in-Made v ↦ absurd (true≢false (sym v.matches-is ∙ c.if-matches.false)) | in_default v ↦ v.in_default.not-Made ] in
    let unmade : is_made (reply l w e) ≡ false = is_unmade (reply l w e) (λ h. other (c.in_ok-outcome.ensures.outcome l w kept.recorded ∙ sym h)) in
    kept_unmade l w e c.make.new.self c.forget.new.self unmade (c.in_ok-outcome.ensures.stands l w kept.recorded) (c.forget.ensures.stand l w kept.noted)
