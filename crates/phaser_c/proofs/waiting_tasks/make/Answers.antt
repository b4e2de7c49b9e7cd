-- What the phaser's clauses say of the number is said of what the handle holds.
use Rattle.std.proofs.Common.{◌≡◌, Option, Some, true, sym, ap, ◌∙◌}
use Rattle.phase_model.specs.declared.call.Call.TheVariants.{Make as make}
use Rattle.phaser_c.specs.declared.waiting.Waiting.{Waiting}
use Rattle.phaser_c.specs.Waiting.{answer_of_done, told_at, numbering, number_given_at, IsNumbering}
use Rattle.phaser_c.proofs.GoneOn.{answer_is, task_is, next_is, held_after}
use Rattle.phaser_c.proofs.waiting_tasks.make.Goals as goal

-- src/waiting_tasks.rt
pub returns-clause-answer : goal.returns-clause-answer
returns-clause-answer c =
    let w = c.deref_mut.result.now in
    let made = c.make-outcome.ensures in
    let held : c.args.phaser.now.state ≡ Some w = c.in-Some.ensures.taken ∙ ap (λ (v : Waiting). Some v) (sym c.deref_mut.ensures.value) in
    c.give_task.ensures.answer ∙ (answer_is c.make-outcome.result (numbering (λ t. make t c.args.mode) w.cell) made.done made.refused
    ∙ ap (λ (h : Option Waiting). answer_of_done (told_at true h (numbering (λ t. make t c.args.mode)))) (sym held))

pub returns-clause-task : goal.returns-clause-task
returns-clause-task c =
    let w = c.deref_mut.result.now in
    let made = c.make-outcome.ensures in
    let held : c.args.phaser.now.state ≡ Some w = c.in-Some.ensures.taken ∙ ap (λ (v : Waiting). Some v) (sym c.deref_mut.ensures.value) in
    c.give_task.ensures.task
    ∙ (task_is c.args.task.now w.cell.state.next c.make-outcome.result (numbering (λ t. make t c.args.mode) w.cell) made.number made.done made.refused
    ∙ ap (λ (h : Option Waiting). number_given_at c.args.task.now (λ t. make t c.args.mode) h) (sym held))

pub returns-clause-made : goal.returns-clause-made
returns-clause-made c =
    let w = c.deref_mut.result.now in
    let made = c.make-outcome.ensures in
    held_after (IsNumbering (λ t. make t c.args.mode)) c.args.phaser.now.state c.put.new.self.state w _
    (c.in-Some.ensures.taken ∙ ap (λ (v : Waiting). Some v) (sym c.deref_mut.ensures.value)) c.put.ensures
    (made.history, next_is w.cell.state.next _ c.make-outcome.result (numbering (λ t. make t c.args.mode) w.cell) made.number made.next made.kept made.done made.refused, made.parked)
