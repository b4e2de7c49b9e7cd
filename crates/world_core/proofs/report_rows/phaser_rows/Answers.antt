-- One phaser more.
use Rattle.std.proofs.Common.{◌≡◌, ◌+◌, ◌*◌, ◌<◌, length, map, subst, ap, ◌∙◌, arith}
use Rattle.world_model.specs.SumLines.{IsWithin}
use Rattle.world_records.specs.inner.Reports.{story_in, made}
use Rattle.world_model.specs.Report.{totals_line}
use Rattle.world_records.proofs.Listed.{made_more, totals_more_made}
use Rattle.world_core.proofs.report_rows.phaser_rows.Goals as goal

pub loop-number-preserved : goal.loop-number-preserved
loop-number-preserved c =
    let n = c.loop-number.number in
    let phasers = c.args.phasers.now in
    let story = c.index-phasers-number.result in
    let within : n < length phasers = omega (arith, c.loop-number-test.true, c.requires.size) in
    let next : 65536 * n + 65536 ≡ 65536 * (n + 1) = omega arith in
    record {
      lines = c.in_ok-add.ensures.lines ∙ made_more phasers n story c.loop-number.rows.lines.items within c.index-phasers-number.is c.loop-number.invariant.lines;
      totals = c.in_ok-add.ensures.totals ∙ totals_more_made phasers n story c.loop-number.rows.totals within c.index-phasers-number.is c.loop-number.invariant.totals;
      few = subst (λ m. IsWithin m c.add.new.self.totals) next (c.in_ok-add.ensures.few (65536 * n) c.loop-number.invariant.few);
      size = omega (arith, c.in_ok-add.ensures.size, c.loop-number.invariant.size);
      room = omega (arith, c.in_ok-add.ensures.room, c.loop-number.invariant.room);
    }

pub returns-clause-totals : goal.returns-clause-totals
returns-clause-totals c =
    let phasers = c.args.phasers.now in
    let same : c.loop-number.number ≡ c.args.count = omega (arith, c.loop-number-test.false, c.loop-number.auto.number-end) in
    c.loop-number.invariant.totals ∙ ap (λ m. totals_line (map (λ n. (story_in phasers n).past) (made phasers m))) same
