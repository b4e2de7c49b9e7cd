use Rattle.std.proofs.Common.{ap, ◌∙◌, subst}
use Rattle.std.specs.Result.{is_ok}
use Rattle.phase_model.specs.declared.call.Call.TheVariants.{Make as make}
use Rattle.phaser_cell.proofs.Made.{kept_made, ticketed_made}
use Rattle.phaser_cell.proofs.Written.{matches_result, ticket_fits}
use Rattle.phaser_cell.specs.Drawn.{IsDrawn}
use Rattle.phaser_cell.proofs.cell.PhaserCell.make.Goals as goal

pub post_if-requires-clause-room_for_ticket : goal.post_if-requires-clause-room_for_ticket
post_if-requires-clause-room_for_ticket g c =
    let cell = c.args.self.now in
    let s = cell.state.story in
    let matches = matches_result s (make c.args.task c.args.mode) c.is_ok.result (c.is_ok.ensures.value ∙ ap (λ a. is_ok a) c.make_with-answer.ensures.reply) in
    ticket_fits s _ _ (make c.args.task c.args.mode) _ _ cell.ticketed cell.room_for_tickets matches

pub invariant_of-self : goal.invariant_of-self
invariant_of-self g c =
    let cell = c.args.self.now in
    let s = cell.state.story in
    let matches = matches_result s (make c.args.task c.args.mode) c.is_ok.result (c.is_ok.ensures.value ∙ ap (λ a. is_ok a) c.make_with-answer.ensures.reply) in
    let drawn = ticketed_made s _ (record { ops = c.args.ops; bound = c.args.bound }) _ _ _ _ c.args.task c.args.mode _ _ cell.ticketed cell.room_for_tickets matches c.make_with-answer.ensures.history c.post_if.ensures.drawn c.post_if.ensures.room_for_tickets in
    record {
      kept = kept_made s _ (record { ops = c.args.ops; bound = c.args.bound }) cell.book _ cell.parked.items c.args.task c.args.mode _ _ cell.kept matches c.make_with-answer.ensures.history c.post_if.ensures.book c.post_if.ensures.room;
      ticketed = drawn.each;
      room_for_tickets = drawn.fits;
      seats = cell.seats;
      seated = cell.seated;
    }

pub returns-clause-tickets : goal.returns-clause-tickets
returns-clause-tickets g c = subst (λ b. IsDrawn b c.args.self.now.drawn.items c.post_if.new.drawn.items) c.is_ok.ensures.value c.post_if.ensures.tickets
