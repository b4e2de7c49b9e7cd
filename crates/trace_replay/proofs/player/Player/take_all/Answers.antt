use Rattle.std.proofs.Common.{◌≡◌, ◌<◌, ◌≤◌, Some, length, reverse, take, slice_get, sym, ◌∙◌, arith}
use Rattle.std.proofs.lemmas.Option.{get_or_from_slice_get}
use Rattle.trace_model.specs.Run.{Entry}
use Rattle.trace_model.specs.Views.{viewed}
use Rattle.trace_replay.proofs.Walking.{goes_on, stops, ends}
use Rattle.trace_replay.proofs.player.Player.take_all.Goals as goal

pub returns-then-not-take : goal.returns-then-not-take
returns-then-not-take c = λ l start.
    let es = c.args.trace.now.events in
    let i = c.loop-index.index in
    let e : Entry = (c.entry-ticket.result.0, viewed c.entry-ticket.result.1) in
    let at : slice_get es i ≡ Some e = c.entry-ticket.ensures in
    let less : i < length es = omega (arith, c.loop-index-test.true, c.len-index-end.ensures.length) in
    let so_far = c.loop-index.invariant l start in
    stops l es i e c.loop-index.self less (sym (get_or_from_slice_get es i e e at)) so_far
    (sym (c.take.ensures.answer l (reverse (take i es)) so_far.handed) ∙ c.if-not-take.true)

pub loop-index-preserved : goal.loop-index-preserved
loop-index-preserved c = λ l start.
    let es = c.args.trace.now.events in
    let i = c.loop-index.index in
    let e : Entry = (c.entry-ticket.result.0, viewed c.entry-ticket.result.1) in
    let at : slice_get es i ≡ Some e = c.entry-ticket.ensures in
    let less : i < length es = omega (arith, c.loop-index-test.true, c.len-index-end.ensures.length) in
    let so_far = c.loop-index.invariant l start in
    goes_on l es i e c.loop-index.self less (sym (get_or_from_slice_get es i e e at)) so_far c.take.new.self
    (sym (c.take.ensures.answer l (reverse (take i es)) so_far.handed) ∙ c.if-not-take.false)
    (c.take.ensures.goes_on l (reverse (take i es)) so_far.handed c.if-not-take.false)

pub returns : goal.returns
returns c = λ l start.
    let es = c.args.trace.now.events in
    let over : length es ≤ c.loop-index.index =
    omega (arith, c.loop-index-test.false, c.len-index-end.ensures.length) in
    ends l es c.loop-index.index c.loop-index.self over (c.loop-index.invariant l start)
