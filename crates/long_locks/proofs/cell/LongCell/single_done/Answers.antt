use Rattle.std.proofs.Common.{ap, sym, ◌∙◌}
use Rattle.std.specs.Result.{is_ok}
use Rattle.phase_model.specs.declared.call.Call.TheVariants.{SingleDone as single_done}
use Rattle.phaser_core.proofs.Freeing.{refused_frees_nobody}
use Rattle.phaser_core.proofs.Parks.{all_waiting, once_waiting}
use Rattle.phaser_core.proofs.Steps.{none_where_refused, settled}
use Rattle.long_locks.proofs.cell.LongCell.single_done.Goals as goal

pub release_if-requires-clause-nobody : goal.release_if-requires-clause-nobody
release_if-requires-clause-nobody g c = λ n.
    let cell = c.args.self.now in
    refused_frees_nobody cell.state.story _ cell.parked.items c.args.task cell.kept c.single_done-answer.ensures.history
    (sym (ap (λ a. is_ok a) c.single_done-answer.ensures.reply) ∙ (sym c.is_ok.ensures.value ∙ n))

pub invariant_of-self : goal.invariant_of-self
invariant_of-self g c =
    let cell = c.args.self.now in
    let s = cell.state.story in
    let s' = c.single_done-answer.new.self.story in
    let left = c.release_if.ensures.parked in
    record {
      kept = settled s _ cell.parked.items _ (single_done c.args.task) cell.kept c.single_done-answer.ensures.history (all_waiting s' cell.parked.items _ left) (once_waiting s' cell.parked.items _ cell.kept.once left);
      seats = c.release_if.ensures.seats;
      seated = c.release_if.ensures.seated;
    }

pub returns-clause-refused : goal.returns-clause-refused
returns-clause-refused g c =
    let cell = c.args.self.now in
    none_where_refused cell.state.story _ cell.parked.items (single_done c.args.task) _ _ cell.kept c.single_done-answer.ensures.history c.single_done-answer.ensures.reply c.release_if.ensures.out
