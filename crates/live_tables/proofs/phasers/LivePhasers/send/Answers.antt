use Rattle.std.proofs.Common.{◌≡◌, Err, refl, subst, w32}
use Rattle.std.proofs.lemmas.Int.{to_z-of_z}
use Rattle.phase_modes.specs.declared.refusal.Refusal.TheVariants.{NotRegistered}
use Rattle.phase_model.specs.declared.call.Call.TheVariants.{Send as send}
use Rattle.phase_model.specs.Replies.{done_result}
use Rattle.told_history.specs.Stories.{IsAnswered}
use Rattle.told_history.proofs.Goes.{goes_far}
use Rattle.live_tables.specs.Slots.{told_of}
use Rattle.live_tables.proofs.Gone.{answered_gone, answered_later}
use Rattle.live_tables.proofs.phasers.LivePhasers.send.Goals as goal

pub returns-in_default-clause-told : goal.returns-in_default-clause-told
returns-in_default-clause-told g c =
    answered_gone (λ _ r. Err NotRegistered ≡ done_result r) (send c.args.task c.args.accumulator c.args.value) c.args.task (told_of c.args.at.number c.args.me.now.items) (told_of c.args.at.number c.find.new.me.items) _
    (c.in_default.ensures.on c.args.at.number) c.in_default.ensures.gone refl refl

pub returns-clause-told : goal.returns-clause-told
returns-clause-told g c =
    let round = to_z-of_z w32 c.args.value c.ranges.value in
    answered_later (λ _ r. c.send.result ≡ done_result r) (send c.args.task c.args.accumulator c.args.value) (told_of c.args.at.number c.args.me.now.items) (told_of c.args.at.number c.find.new.me.items) (told_of c.args.at.number c.send.new.me.items) (c.in-Some.ensures.on c.args.at.number)
    (subst (λ n. IsAnswered (λ _ r. c.send.result ≡ done_result r) (send c.args.task c.args.accumulator c.args.value) (told_of n c.find.new.me.items) (told_of n c.send.new.me.items)) c.in-Some.ensures.here.1 (rw round at c.send.ensures.told))

pub returns-clause-others : goal.returns-clause-others
returns-clause-others g c = λ k.
    goes_far (told_of k c.args.me.now.items) (told_of k c.find.new.me.items) (told_of k c.send.new.me.items) (c.in-Some.ensures.on k) (c.send.ensures.others k)
