use Rattle.std.proofs.Common.{◌≡◌, List, length, ap, sym, ◌∙◌, subst, arith}
use Rattle.std.proofs.lemmas.Bool.{eqb-true}
use Rattle.phase_model.specs.Laws.{IsLegal}
use Rattle.phase_model.specs.Rules.{Story}
use Rattle.trace_model.specs.Run.{Entry}
use Rattle.trace_model.specs.Told.{phaser_told}
use Rattle.phaser_cell.specs.Telling.{IsPhaserPart}
use Rattle.phaser_cell.proofs.Parts.{phasers_grow}
use Rattle.table_receipts.specs.Parts.{IsLogged}
use Rattle.table_receipts.proofs.Parts.{logs_grow}
use Rattle.table_receipts.proofs.table.take_apart.Goals as goal

pub returns-clause-told : goal.returns-clause-told
returns-clause-told g c =
    let cell = c.args.cell.cell in
    let ps : List (List Entry) = c.args.parts.now.items in
    let number : c.len-number.result ≡ length ps = omega (arith, c.len-number.ensures, c.args.parts.now.ok.0) in
    let last : IsPhaserPart (length ps) c.of_phaser.result cell.book.totals = record {
      story = cell.state.story;
      tickets = cell.drawn.items;
      told = c.of_phaser.ensures
          ∙ (ap (λ n. phaser_told n c.into_history.result cell.drawn.items) number
          ∙ ap (λ (s : Story). phaser_told (length ps) s cell.drawn.items) c.into_history.ensures);
      drawn = omega (arith, cell.ticketed, cell.drawn.ok.0);
      legal = cell.kept.legal;
      posted = cell.kept.posted;
    } in
    phasers_grow (λ b. b.totals) ps c.push_reserved.new.self.items c.args.of_phasers.now.items c.push_reserved-2.new.self.items c.of_phaser.result cell.book c.push_reserved.ensures.items c.push_reserved-2.ensures.items c.requires.told last

pub returns-clause-logged : goal.returns-clause-logged
returns-clause-logged g c =
    let cell = c.args.cell.cell in
    let log = c.args.cell.log in
    let ps : List (List Entry) = c.args.parts.now.items in
    let number : c.len-number.result ≡ length ps = omega (arith, c.len-number.ensures, c.args.parts.now.ok.0) in
    let same : c.args.cell.number ≡ length ps = eqb-true c.args.cell.number c.len-number.result c.must_be.ensures ∙ number in
    let story : cell.state.story ≡ log.story = sym c.args.cell.told in
    let last : IsLogged g.K.Logs.logs (length ps) c.of_phaser.result log = record {
      tickets = cell.drawn.items;
      named = c.args.cell.named ∙ ap g.K.Logs.logs same;
      told = c.of_phaser.ensures
          ∙ (ap (λ n. phaser_told n c.into_history.result cell.drawn.items) number
          ∙ ap (λ (s : Story). phaser_told (length ps) s cell.drawn.items) (c.into_history.ensures ∙ story));
      drawn = omega (arith, cell.ticketed, cell.drawn.ok.0, ap (λ (s : Story). length s.past) story);
      legal = subst (λ (s : Story). IsLegal s) story cell.kept.legal;
    } in
    logs_grow g.K.Logs.logs ps c.push_reserved.new.self.items c.args.logs.now.items c.push_reserved-3.new.self.items c.of_phaser.result log c.push_reserved.ensures.items c.push_reserved-3.ensures.items c.requires.logged last
