use Rattle.std.proofs.Common.{false, refl, subst}
use Rattle.phase_modes.specs.declared.refusal.Refusal.TheVariants.{NotRegistered}
use Rattle.phase_model.specs.declared.call.Call.TheVariants.{Signal as signal}
use Rattle.phase_model.specs.Answers.{signal_result}
use Rattle.phaser_core.specs.declared.answer.SignalAnswer.TheVariants.{Refused}
use Rattle.long_locks.specs.Told.{IsSignalAnswer}
use Rattle.told_history.specs.Stories.{IsAnswered}
use Rattle.told_history.proofs.Goes.{goes_far}
use Rattle.live_tables.specs.Slots.{told_of}
use Rattle.live_tables.proofs.Gone.{answered_gone, answered_later}
use Rattle.live_tables.proofs.phasers.LivePhasers.signal.Goals as goal

pub returns-in_default-clause-told : goal.returns-in_default-clause-told
returns-in_default-clause-told g c =
    answered_gone (λ _ r. IsSignalAnswer c.args.item (signal_result r) (Refused c.args.item NotRegistered)) (signal c.args.task c.args.proposed) c.args.task (told_of c.args.at.number c.args.me.now.items) (told_of c.args.at.number c.find.new.me.items) _
    (c.in_default.ensures.on c.args.at.number) c.in_default.ensures.gone refl (false, refl)

pub returns-clause-told : goal.returns-clause-told
returns-clause-told g c =
    answered_later (λ _ r. IsSignalAnswer c.args.item (signal_result r) c.signal.result) (signal c.args.task c.args.proposed) (told_of c.args.at.number c.args.me.now.items) (told_of c.args.at.number c.find.new.me.items) (told_of c.args.at.number c.signal.new.me.items) (c.in-Some.ensures.on c.args.at.number)
    (subst (λ n. IsAnswered (λ _ r. IsSignalAnswer c.args.item (signal_result r) c.signal.result) (signal c.args.task c.args.proposed) (told_of n c.find.new.me.items) (told_of n c.signal.new.me.items)) c.in-Some.ensures.here.1 c.signal.ensures.told)

pub returns-clause-others : goal.returns-clause-others
returns-clause-others g c = λ k.
    goes_far (told_of k c.args.me.now.items) (told_of k c.find.new.me.items) (told_of k c.signal.new.me.items) (c.in-Some.ensures.on k) (c.signal.ensures.others k)
