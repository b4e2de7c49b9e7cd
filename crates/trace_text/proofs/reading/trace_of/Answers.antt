use Rattle.std.proofs.Common.{refl, sym, ap, ◌∙◌}
use Rattle.serde_json.specs.View.{view}
use Rattle.trace_text.specs.Form.{entry_in, with_limits}
use Rattle.job_script.proofs.Loops.{numbered_goes_on, numbered_stops, numbered_is_done}
use Rattle.trace_text.proofs.reading.trace_of.Goals as goal

pub returns-in-None : goal.returns-in-None
returns-in-None c =
    let called = ap (λ v. entry_in c.args.version (view v)) (sym c.index-items-index.is) ∙ sym c.entry_of.ensures ∙ c.in-None.is in
    let none = numbered_stops (entry_in c.args.version) c.loop-index.trace.events c.args.items.now c.loop-index.index c.index-items-index.result _ c.loop-index-test.true called c.loop-index.invariant.so_far in
    ap (with_limits c.args.limits) none

pub loop-index-preserved : goal.loop-index-preserved
loop-index-preserved c =
    let called = ap (λ v. entry_in c.args.version (view v)) (sym c.index-items-index.is) ∙ sym c.entry_of.ensures ∙ c.in-Some.is in
    rw c.in_ok-push.ensures.added (record {
      so_far = numbered_goes_on (entry_in c.args.version) c.loop-index.trace.events c.args.items.now c.loop-index.index c.index-items-index.result _ _ c.loop-index-test.true called c.loop-index.invariant.so_far;
      limits = c.loop-index.invariant.limits;
    })

pub returns : goal.returns
returns c =
    let all = numbered_is_done (entry_in c.args.version) c.loop-index.trace.events c.args.items.now c.loop-index.index _ c.loop-index-test.false c.loop-index.invariant.so_far in
    ap (with_limits c.args.limits) all ∙ rw (sym c.loop-index.invariant.limits) refl
