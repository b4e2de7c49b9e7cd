use Rattle.std.proofs.Common.{ℕ, ◌&&◌, not, Result, ap, sym, ◌∙◌}
use Rattle.phase_modes.specs.declared.refusal.Refusal.{Refusal}
use Rattle.phase_model.specs.declared.answer.Passing.{Passing}
use Rattle.phaser_core.specs.Firsts.{is_first_held, has_gone_on}
use Rattle.phaser_core.specs.Parking.{answered_is}
use Rattle.phaser_core.proofs.Freeing.{pass_frees_no_signaller}
use Rattle.phaser_core.proofs.Steps.{pass_leaves}
use Rattle.long_locks.specs.declared.course.Course.{Course}
use Rattle.long_locks.specs.Courses.{story_after, pass_course, has_moved}
use Rattle.long_locks.proofs.Steps.{moves_pass}
use Rattle.long_locks.proofs.Calling.{none_near}
use Rattle.long_locks.proofs.own.own_pass.Goals as goal

pub returns-clause-course : goal.returns-clause-course
returns-clause-course c =
    c.of_pass-course.ensures
    ∙ ap (λ (r : Result (Passing ℕ) Refusal). pass_course r)
    (c.pass-answer.ensures.reply ∙ answered_is c.args.state.now.story c.args.task)

pub returns-clause-history : goal.returns-clause-history
unfolding story_after
returns-clause-history c = c.pass-answer.ensures.history

pub returns-clause-nobody : goal.returns-clause-nobody
returns-clause-nobody c = λ kept n.
    let s = c.args.state.now.story in
    let t = c.args.task in
    let ps = c.args.parked.now.items in
    let is = c.pass-answer.ensures.history in
    let gone = c.has_gone_on-gone_on.result in
    let went =
    ap (λ (a : Result (Passing ℕ) Refusal). has_gone_on a) (sym c.pass-answer.ensures.reply)
    ∙ sym c.has_gone_on-gone_on.ensures in
    pass_frees_no_signaller s _ ps t gone kept is (λ m. is ∙ pass_leaves s t (went ∙ m))
    (ap (λ b. b && gone && not (is_first_held c.pass-answer.new.self.story ps))
    (sym c.is_bounded-bounded.ensures)
    ∙ (sym c.may_come_near-may_go_on.ensures ∙ n))

pub returns-clause-still : goal.returns-clause-still
returns-clause-still c = λ still.
    c.may_come_near-may_go_on.ensures
    ∙ none_near _ _ _
    (c.has_gone_on-gone_on.ensures
    ∙ (sym (moves_pass c.pass-answer.result)
    ∙ (sym (ap (λ (k : Course). has_moved k) c.of_pass-course.ensures) ∙ still)))
