use Rattle.std.proofs.Common.{is_some, ◌||◌, sym, ◌∙◌}
use Rattle.std.proofs.lemmas.Bool.{false≢true}
use Rattle.phase_model.specs.declared.call.Call.TheVariants.{Drop as drop_task}
use Rattle.phase_model.specs.Waiting.{would_wait}
use Rattle.phaser_core.specs.Firsts.{is_phase_open}
use Rattle.phaser_core.proofs.Freeing.{neither_leaves, drop_frees_nobody}
use Rattle.phaser_core.proofs.Parks.{all_waiting, once_waiting}
use Rattle.phaser_core.proofs.Steps.{none_where_refused, settled}
use Rattle.long_locks.proofs.cell.LongCell.leave.Goals as goal

pub release_if-requires-clause-nobody : goal.release_if-requires-clause-nobody
release_if-requires-clause-nobody g c = λ n.
    let cell = c.args.self.now in
    let s = cell.state.story in
    let s' = c.leave-answer.new.self.story in
    let ps = cell.parked.items in
    drop_frees_nobody s s' ps c.args.task cell.kept c.leave-answer.ensures.history
    (neither_leaves (is_some s.terms.bound || would_wait s c.args.task) (is_phase_open s ps) (is_phase_open s' ps) (λ own. false≢true (sym n ∙ c.may_leave.ensures.otherwise (cc c.may_be_parked-own.ensures))) (λ was now. false≢true (sym n ∙ c.may_leave.ensures.closed (cc) (cc))))

pub invariant_of-self : goal.invariant_of-self
invariant_of-self g c =
    let cell = c.args.self.now in
    let s = cell.state.story in
    let s' = c.leave-answer.new.self.story in
    let left = c.release_if.ensures.parked in
    record {
      kept = settled s _ cell.parked.items _ (drop_task c.args.task) cell.kept c.leave-answer.ensures.history (all_waiting s' cell.parked.items _ left) (once_waiting s' cell.parked.items _ cell.kept.once left);
      seats = c.release_if.ensures.seats;
      seated = c.release_if.ensures.seated;
    }

pub returns-clause-refused : goal.returns-clause-refused
returns-clause-refused g c =
    let cell = c.args.self.now in
    none_where_refused cell.state.story _ cell.parked.items (drop_task c.args.task) _ _ cell.kept c.leave-answer.ensures.history c.leave-answer.ensures.reply c.release_if.ensures.out
