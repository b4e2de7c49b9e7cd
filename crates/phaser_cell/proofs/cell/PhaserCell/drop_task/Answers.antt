use Rattle.std.proofs.Common.{is_some, ◌||◌, ap, sym, ◌∙◌, subst}
use Rattle.std.specs.Result.{is_ok}
use Rattle.std.proofs.lemmas.Bool.{false≢true}
use Rattle.phase_model.specs.declared.call.Call.TheVariants.{Drop as drop_task}
use Rattle.phase_model.specs.Waiting.{would_wait}
use Rattle.phaser_core.specs.Firsts.{is_phase_open}
use Rattle.phaser_core.proofs.Freeing.{neither_leaves, drop_frees_nobody}
use Rattle.phaser_core.proofs.Parks.{all_waiting, once_waiting}
use Rattle.phaser_core.proofs.Steps.{none_where_refused}
use Rattle.phaser_cell.proofs.Written.{matches_result, kept, ticketed, ticket_fits, settled_of}
use Rattle.phaser_cell.specs.Drawn.{IsDrawn}
use Rattle.phaser_cell.proofs.cell.PhaserCell.drop_task.Goals as goal

pub release_if-requires-clause-nobody : goal.release_if-requires-clause-nobody
release_if-requires-clause-nobody g c = λ n.
    let cell = c.args.self.now in
    let s = cell.state.story in
    let s' = c.drop_task-answer.new.self.story in
    let ps = cell.parked.items in
    drop_frees_nobody s s' ps c.args.task (settled_of cell.state.story cell.book cell.parked.items cell.kept) c.drop_task-answer.ensures.history
    (neither_leaves (is_some s.terms.bound || would_wait s c.args.task) (is_phase_open s ps) (is_phase_open s' ps) (λ own. false≢true (sym n ∙ c.may_leave.ensures.otherwise (c.may_be_parked-own.ensures ∙ own))) (λ was now. false≢true (sym n ∙ c.may_leave.ensures.closed (cc) (cc))))

pub post_if-requires-clause-room_for_ticket : goal.post_if-requires-clause-room_for_ticket
post_if-requires-clause-room_for_ticket g c =
    let cell = c.args.self.now in
    let s = cell.state.story in
    let matches = matches_result s (drop_task c.args.task) c.is_ok.result (c.is_ok.ensures.value ∙ ap (λ a. is_ok a) c.drop_task-answer.ensures.reply) in
    ticket_fits s _ _ (drop_task c.args.task) _ _ cell.ticketed cell.room_for_tickets matches

pub invariant_of-self : goal.invariant_of-self
invariant_of-self g c =
    let cell = c.args.self.now in
    let s = cell.state.story in
    let is = c.drop_task-answer.ensures.history in
    let matches = matches_result s (drop_task c.args.task) c.is_ok.result (c.is_ok.ensures.value ∙ ap (λ a. is_ok a) c.drop_task-answer.ensures.reply) in
    let s' = c.drop_task-answer.new.self.story in
    let left = c.release_if.ensures.parked in
    let drawn = ticketed s _ _ _ _ _ (drop_task c.args.task) _ _ cell.ticketed cell.room_for_tickets matches is c.post_if.ensures.drawn c.post_if.ensures.room_for_tickets in
    record {
      kept = kept s _ cell.book _ cell.parked.items _ (drop_task c.args.task) _ _ cell.kept matches is c.post_if.ensures.book c.post_if.ensures.room (all_waiting s' cell.parked.items _ left) (once_waiting s' cell.parked.items _ cell.kept.once left);
      ticketed = drawn.each;
      room_for_tickets = drawn.fits;
      seats = c.release_if.ensures.seats;
      seated = c.release_if.ensures.seated;
    }

pub returns-clause-refused : goal.returns-clause-refused
returns-clause-refused g c =
    let cell = c.args.self.now in
    none_where_refused cell.state.story _ cell.parked.items (drop_task c.args.task) _ _ (settled_of cell.state.story cell.book cell.parked.items cell.kept) c.drop_task-answer.ensures.history c.drop_task-answer.ensures.reply c.release_if.ensures.out

pub returns-clause-tickets : goal.returns-clause-tickets
returns-clause-tickets g c = subst (λ b. IsDrawn b c.args.self.now.drawn.items c.post_if.new.drawn.items) c.is_ok.ensures.value c.post_if.ensures.tickets
