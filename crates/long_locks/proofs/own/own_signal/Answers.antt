use Rattle.std.proofs.Common.{◌&&◌, is_some, Result, ap, sym, ◌∙◌}
use Rattle.std.proofs.lemmas.Bool.{false≢true, and_left}
use Rattle.phase_modes.specs.declared.refusal.Refusal.{Refusal}
use Rattle.phase_model.specs.declared.call.Call.TheVariants.{Signal as signal}
use Rattle.phase_model.specs.Replies.{reply}
use Rattle.phase_model.specs.declared.answer.Signalling.{Signalling}
use Rattle.phaser_core.specs.Firsts.{is_phase_open, is_made}
use Rattle.phaser_core.specs.Parking.{signal_answered_is}
use Rattle.phaser_core.proofs.Freeing.{neither_leaves, signal_frees_nobody}
use Rattle.phaser_core.proofs.Steps.{signal_leaves}
use Rattle.long_locks.specs.declared.course.Course.{Course}
use Rattle.long_locks.specs.Courses.{story_after, signal_course, has_moved}
use Rattle.long_locks.proofs.Steps.{moves_signal}
use Rattle.long_locks.proofs.Calling.{waiting_either}
use Rattle.long_locks.proofs.own.own_signal.Goals as goal

pub returns-clause-course : goal.returns-clause-course
returns-clause-course c =
    c.of_signal-course.ensures
    ∙ ap (λ (r : Result Signalling Refusal). signal_course c.args.then r)
    (c.signal-answer.ensures.reply ∙ signal_answered_is c.args.state.now.story c.args.task c.args.number)

pub returns-clause-history : goal.returns-clause-history
unfolding story_after
returns-clause-history c = c.signal-answer.ensures.history

pub returns-clause-nobody : goal.returns-clause-nobody
returns-clause-nobody c = λ kept n.
    let s = c.args.state.now.story in
    let s' = c.signal-answer.new.self.story in
    let ps = c.args.parked.now.items in
    let is = c.signal-answer.ensures.history in
    let went =
    ap (λ (a : Result Signalling Refusal). is_made a) (sym c.signal-answer.ensures.reply)
    ∙ sym c.is_made-made.ensures in
    waiting_either s s' ps c.is_made-made.result c.may_leave-leaves.result kept
    (λ m. is ∙ signal_leaves s (reply s (signal c.args.task c.args.number)) (went ∙ m))
    (λ m.
    signal_frees_nobody s s' ps c.args.task c.args.number kept is
    (neither_leaves (is_some c.args.number && is_some s.terms.bound) (is_phase_open s ps)
    (is_phase_open s' ps)
    (λ own. false≢true (sym m
    ∙ c.may_leave-leaves.ensures.otherwise (c.may_part_proposers-others.ensures ∙ own)))
    (λ was now. false≢true (sym m ∙ c.may_leave-leaves.ensures.closed (cc) (cc)))))
    (sym c.may_free-may_go_on.ensures ∙ n)

pub returns-clause-still : goal.returns-clause-still
returns-clause-still c = λ still.
    c.may_free-may_go_on.ensures
    ∙ and_left _ _
    (c.is_made-made.ensures
    ∙ (sym (moves_signal c.args.then c.signal-answer.result)
    ∙ (sym (ap (λ (k : Course). has_moved k) c.of_signal-course.ensures) ∙ still)))
