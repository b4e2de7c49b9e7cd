use Rattle.std.proofs.Common.{◌≡◌, true, Ok, sym, subst, ◌∙◌}
use Rattle.std.proofs.lemmas.Bool.{true≢false}
use Rattle.phase_modes.specs.declared.refusal.Refusal.{Refusal}
use Rattle.std.specs.Prelude.{Result}
use Rattle.world_model.specs.declared.reply.Reply.{Reply}
use Rattle.world_model.specs.Replies.{is_made}
use Rattle.world_records.specs.StandsFor.{IsStep}
use Rattle.schedule_run.proofs.Entries.{made_unless, record_more}
use Rattle.schedule_run.proofs.record.Record.make.Goals as goal
use Rattle.schedule_run.proofs.record.Record.make.Goals.{in-NotYet, in_default}

pub returns-clause-stands : goal.returns-clause-stands
returns-clause-stands c l w st =
    let step : IsStep c.args.event.now c.args.self.now.world c.step.new.self (Ok c.in-Ok.reply) = subst (λ (r : Result Reply Refusal). IsStep c.args.event.now c.args.self.now.world c.step.new.self r) c.in-Ok.is c.step.ensures in
    let kept : is_made (Ok c.in-Ok.reply) ≡ true = elim c.match-matches.branch [ in-NotYet w ↦ absurd (true≢false (sym w.matches-is ∙ c.if-matches.false)) | in_default w ↦ made_unless c.in-Ok.reply w.in_default.not-NotYet ] in
    record_more l w c.args.event.now c.args.self.now.world c.step.new.self c.args.self.now.trace c.in-Ok.reply c.add.new.trace step kept c.in_ok-add.ensures.added st
