use Rattle.std.proofs.Common.{is_some, ◌||◌, [], ap, sym, ◌∙◌}
use Rattle.std.specs.Result.{is_ok}
use Rattle.std.proofs.lemmas.Bool.{false≢true, and_left}
use Rattle.phase_model.specs.declared.call.Call.TheVariants.{Drop as drop_task}
use Rattle.phase_model.specs.Rules.{Story}
use Rattle.phase_model.specs.Waiting.{would_wait}
use Rattle.phaser_core.specs.Firsts.{is_phase_open}
use Rattle.phaser_core.proofs.Freeing.{neither_leaves, drop_frees_nobody}
use Rattle.long_locks.specs.Turns.{standing}
use Rattle.long_locks.proofs.Calling.{on_refusal, sound_after, same_after, waiting_either}
use Rattle.long_locks.proofs.Leaving.{told_of_leaving}
use Rattle.long_locks.proofs.waiting.LongCell+Then.leave_telling.Goals as goal

pub settle_if-requires-clause-sound : goal.settle_if-requires-clause-sound
settle_if-requires-clause-sound c =
    let cell = c.args.self.now in
    sound_after cell.state.story _ (drop_task c.args.task) cell.parked.items cell.kept
    c.leave-answer.ensures.history

pub settle_if-requires-clause-nobody : goal.settle_if-requires-clause-nobody
settle_if-requires-clause-nobody c = λ n.
    let cell = c.args.self.now in
    let s = cell.state.story in
    let s' = c.leave-answer.new.self.story in
    let ps = cell.parked.items in
    let is = c.leave-answer.ensures.history in
    waiting_either s s' ps c.is_ok.result c.may_leave-leaves.result cell.kept
    (λ m. same_after s s' (drop_task c.args.task) is (sym (ap (λ a. is_ok a) c.leave-answer.ensures.reply)
    ∙ (sym c.is_ok.ensures.value ∙ m)))
    (λ m.
    drop_frees_nobody s s' ps c.args.task cell.kept is
    (neither_leaves (is_some s.terms.bound || would_wait s c.args.task) (is_phase_open s ps)
    (is_phase_open s' ps)
    (λ own. false≢true (sym m ∙ c.may_leave-leaves.ensures.otherwise (c.may_be_parked-own.ensures ∙ own)))
    (λ was now. false≢true (sym m ∙ c.may_leave-leaves.ensures.closed (cc) (cc)))))
    (sym c.may_free.ensures ∙ n)

pub returns-clause-refused : goal.returns-clause-refused
returns-clause-refused c =
    let cell = c.args.self.now in
    let s = cell.state.story in
    let s' = c.leave-answer.new.self.story in
    let ps = cell.parked.items in
    on_refusal c.leave-answer.result _
    (λ failed.
    c.settle_if.ensures.still (c.may_free.ensures ∙ and_left _ _ (c.is_ok.ensures.value ∙ failed))
    ∙ ap (λ (v : Story). standing v ps [])
    (same_after s s' (drop_task c.args.task) c.leave-answer.ensures.history
    (sym (ap (λ a. is_ok a) c.leave-answer.ensures.reply) ∙ failed)))

pub returns-clause-told : goal.returns-clause-told
returns-clause-told c = λ ok parked.
    let cell = c.args.self.now in
    let went = c.settle_if.ensures in
    told_of_leaving cell.state.story c.leave-answer.new.self.story c.args.task cell.parked.items
    (standing c.settle_if.new.state.story c.settle_if.new.parked.items c.settle_if.new.freed)
    c.leave-answer.ensures.history (sym c.leave-answer.ensures.reply ∙ ok) parked went.turned went.kept
