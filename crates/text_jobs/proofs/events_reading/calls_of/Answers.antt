use Rattle.std.proofs.Common.{sym, ◌∙◌, ap, arith, Err}
use Rattle.serde_json.specs.View.{view}
use Rattle.job_script.proofs.Loops.{numbered_goes_on, numbered_stops, numbered_is_done}
use Rattle.text_jobs.specs.EventsForm.{call_in}
use Rattle.text_jobs.proofs.events_reading.calls_of.Goals as goal

pub returns-in-None : goal.returns-in-None
returns-in-None c =
    let called = ap (λ v. call_in (view v)) (sym c.index-items-index.is) ∙ sym c.call_of.ensures ∙ c.in-None.is in
    numbered_stops call_in c.loop-index.calls.items c.args.items.now c.loop-index.index c.index-items-index.result _ c.loop-index-test.true called c.loop-index.invariant
    ∙ ap Err (omega arith)

pub loop-index-preserved : goal.loop-index-preserved
loop-index-preserved c =
    let called = ap (λ v. call_in (view v)) (sym c.index-items-index.is) ∙ sym c.call_of.ensures ∙ c.in-Some.is in
    rw c.in_ok-push.ensures.items
    (numbered_goes_on call_in c.loop-index.calls.items c.args.items.now c.loop-index.index c.index-items-index.result _ _ c.loop-index-test.true called c.loop-index.invariant)

pub returns : goal.returns
returns c = numbered_is_done call_in c.loop-index.calls.items c.args.items.now c.loop-index.index _ c.loop-index-test.false c.loop-index.invariant
