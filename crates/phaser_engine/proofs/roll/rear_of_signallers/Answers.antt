use Rattle.std.proofs.Common.{◌+◌, length, take, refl, arith}
use Rattle.std.proofs.lemmas.List.{length-take-le}
use Rattle.std.proofs.lemmas.Option.{slice_get_read}
use Rattle.phaser_engine.specs.Line.{stands_at, signallers_at}
use Rattle.phaser_engine.proofs.Counting.{rear_few, signals_once, counted_more}
use Rattle.phaser_engine.proofs.roll.rear_of_signallers.Goals as goal

pub with_signaller-rear-requires-clause-few : goal.with_signaller-rear-requires-clause-few
with_signaller-rear-requires-clause-few c =
    let i = c.loop-line.line-index in
    rear_few stands_at signals_once (take i c.args.lines.now) c.loop-line.rear c.loop-line.invariant
    (omega (arith, c.requires.few, length-take-le i c.args.lines.now, c.loop-line-test.true))

pub loop-line-preserved : goal.loop-line-preserved
loop-line-preserved c =
    let i = c.loop-line.line-index in
    let xs = c.args.lines.now in
    c.with_signaller-rear.ensures (signallers_at (take i xs)) (signallers_at (take (i + 1) xs))
    c.loop-line.invariant (counted_more stands_at xs i c.line-item.result
    (slice_get_read xs (length xs) i c.line-item.result refl c.loop-line-test.true c.line-item.is))
