use Rattle.std.proofs.Common.{ap, refl, ◌∙◌, subst}
use Rattle.std.specs.Result.{is_ok}
use Rattle.phase_model.specs.declared.call.Call.TheVariants.{Look as look}
use Rattle.phaser_core.proofs.Steps.{stays_waiting}
use Rattle.phaser_cell.proofs.Written.{matches_look, kept, ticketed, ticket_fits, settled_of}
use Rattle.phaser_cell.specs.Drawn.{IsDrawn}
use Rattle.phaser_cell.proofs.cell.PhaserCell.look.Goals as goal

pub post_if-requires-clause-room_for_ticket : goal.post_if-requires-clause-room_for_ticket
post_if-requires-clause-room_for_ticket g c =
    let cell = c.args.self.now in
    let s = cell.state.story in
    let t = c.args.task in
    let a = c.args.accumulator in
    let matches = matches_look s t a c.unwrap_or-seen.result c.is_ok.result (c.is_ok.ensures.value ∙ ap (λ a. is_ok a) c.look-answer.ensures.reply) in
    ticket_fits s _ _ (look t a) _ _ cell.ticketed cell.room_for_tickets matches

pub invariant_of-self : goal.invariant_of-self
invariant_of-self g c =
    let cell = c.args.self.now in
    let s = cell.state.story in
    let t = c.args.task in
    let a = c.args.accumulator in
    let is = c.look-answer.ensures.history in
    let matches = matches_look s t a c.unwrap_or-seen.result c.is_ok.result (c.is_ok.ensures.value ∙ ap (λ a. is_ok a) c.look-answer.ensures.reply) in
    let drawn = ticketed s _ _ _ _ _ (look t a) _ _ cell.ticketed cell.room_for_tickets matches is c.post_if.ensures.drawn c.post_if.ensures.room_for_tickets in
    record {
      kept = kept s _ cell.book _ cell.parked.items cell.parked.items (look t a) _ _ cell.kept matches is c.post_if.ensures.book c.post_if.ensures.room (stays_waiting s _ cell.parked.items (look t a) (settled_of cell.state.story cell.book cell.parked.items cell.kept) is refl refl) cell.kept.once;
      ticketed = drawn.each;
      room_for_tickets = drawn.fits;
      seats = cell.seats;
      seated = cell.seated;
    }

pub returns-clause-tickets : goal.returns-clause-tickets
returns-clause-tickets g c = subst (λ b. IsDrawn b c.args.self.now.drawn.items c.post_if.new.drawn.items) c.is_ok.ensures.value c.post_if.ensures.tickets
