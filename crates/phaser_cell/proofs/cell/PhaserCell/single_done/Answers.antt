use Rattle.std.proofs.Common.{◌≡◌, false, ap, sym, ◌∙◌, subst}
use Rattle.std.specs.Result.{is_ok}
use Rattle.phase_model.specs.declared.call.Call.TheVariants.{SingleDone as single_done}
use Rattle.phaser_core.proofs.Freeing.{refused_frees_nobody}
use Rattle.phaser_core.proofs.Parks.{all_waiting, once_waiting}
use Rattle.phaser_core.proofs.Steps.{none_where_refused}
use Rattle.phaser_cell.proofs.Written.{matches_result, kept, ticketed, ticket_fits, settled_of}
use Rattle.phaser_cell.specs.Drawn.{IsDrawn}
use Rattle.phaser_cell.proofs.cell.PhaserCell.single_done.Goals as goal

pub release_if-requires-clause-nobody : goal.release_if-requires-clause-nobody
release_if-requires-clause-nobody g c =
    let cell = c.args.self.now in
    let s = cell.state.story in
    let is = c.single_done-answer.ensures.history in
    λ n.
    let undone : c.is_ok-is_done.result ≡ false = cc in
    refused_frees_nobody s _ cell.parked.items c.args.task (settled_of cell.state.story cell.book cell.parked.items cell.kept) is
    (sym (ap (λ a. is_ok a) c.single_done-answer.ensures.reply) ∙ (sym c.is_ok-is_done.ensures.value ∙ undone))

pub post_if-requires-clause-room_for_ticket : goal.post_if-requires-clause-room_for_ticket
post_if-requires-clause-room_for_ticket g c =
    let cell = c.args.self.now in
    let s = cell.state.story in
    let matches = matches_result s (single_done c.args.task) c.is_ok-is_done.result (c.is_ok-is_done.ensures.value ∙ ap (λ a. is_ok a) c.single_done-answer.ensures.reply) in
    ticket_fits s _ _ (single_done c.args.task) _ _ cell.ticketed cell.room_for_tickets matches

pub invariant_of-self : goal.invariant_of-self
invariant_of-self g c =
    let cell = c.args.self.now in
    let s = cell.state.story in
    let is = c.single_done-answer.ensures.history in
    let matches = matches_result s (single_done c.args.task) c.is_ok-is_done.result (c.is_ok-is_done.ensures.value ∙ ap (λ a. is_ok a) c.single_done-answer.ensures.reply) in
    let s' = c.single_done-answer.new.self.story in
    let left = c.release_if.ensures.parked in
    let drawn = ticketed s _ _ _ _ _ (single_done c.args.task) _ _ cell.ticketed cell.room_for_tickets matches is c.post_if.ensures.drawn c.post_if.ensures.room_for_tickets in
    record {
      kept = kept s _ cell.book _ cell.parked.items _ (single_done c.args.task) _ _ cell.kept matches is c.post_if.ensures.book c.post_if.ensures.room (all_waiting s' cell.parked.items _ left) (once_waiting s' cell.parked.items _ cell.kept.once left);
      ticketed = drawn.each;
      room_for_tickets = drawn.fits;
      seats = c.release_if.ensures.seats;
      seated = c.release_if.ensures.seated;
    }

pub returns-clause-refused : goal.returns-clause-refused
returns-clause-refused g c =
    let cell = c.args.self.now in
    none_where_refused cell.state.story _ cell.parked.items (single_done c.args.task) _ _ (settled_of cell.state.story cell.book cell.parked.items cell.kept) c.single_done-answer.ensures.history c.single_done-answer.ensures.reply c.release_if.ensures.out

pub returns-clause-tickets : goal.returns-clause-tickets
returns-clause-tickets g c = subst (λ b. IsDrawn b c.args.self.now.drawn.items c.post_if.new.drawn.items) c.is_ok-is_done.ensures.value c.post_if.ensures.tickets
