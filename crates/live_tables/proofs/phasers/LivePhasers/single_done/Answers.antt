use Rattle.std.proofs.Common.{◌≡◌, Err, refl, subst}
use Rattle.phase_modes.specs.declared.refusal.Refusal.TheVariants.{NotRegistered}
use Rattle.phase_model.specs.declared.call.Call.TheVariants.{SingleDone as single_done}
use Rattle.phase_model.specs.Replies.{done_result}
use Rattle.told_history.specs.Stories.{IsAnswered}
use Rattle.told_history.proofs.Goes.{goes_far}
use Rattle.live_tables.specs.Slots.{told_of}
use Rattle.live_tables.proofs.Gone.{answered_gone, answered_later}
use Rattle.live_tables.proofs.phasers.LivePhasers.single_done.Goals as goal

pub returns-in_default-clause-told : goal.returns-in_default-clause-told
returns-in_default-clause-told g c =
    answered_gone (λ _ r. Err NotRegistered ≡ done_result r) (single_done c.args.task) c.args.task (told_of c.args.at.number c.args.me.now.items) (told_of c.args.at.number c.find.new.me.items) _
    (c.in_default.ensures.on c.args.at.number) c.in_default.ensures.gone refl refl

pub returns-clause-told : goal.returns-clause-told
returns-clause-told g c =
    answered_later (λ _ r. c.single_done.result ≡ done_result r) (single_done c.args.task) (told_of c.args.at.number c.args.me.now.items) (told_of c.args.at.number c.find.new.me.items) (told_of c.args.at.number c.single_done.new.me.items) (c.in-Some.ensures.on c.args.at.number)
    (subst (λ n. IsAnswered (λ _ r. c.single_done.result ≡ done_result r) (single_done c.args.task) (told_of n c.find.new.me.items) (told_of n c.single_done.new.me.items)) c.in-Some.ensures.here.1 c.single_done.ensures.told)

pub returns-clause-others : goal.returns-clause-others
returns-clause-others g c = λ k.
    goes_far (told_of k c.args.me.now.items) (told_of k c.find.new.me.items) (told_of k c.single_done.new.me.items) (c.in-Some.ensures.on k) (c.single_done.ensures.others k)
