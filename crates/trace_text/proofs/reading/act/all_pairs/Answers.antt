use Rattle.std.proofs.Common.{◌∷◌, [], sym, ap, ◌∙◌, arith, length-append}
use Rattle.serde_json.specs.View.{view}
use Rattle.job_script.specs.Words.{at_most}
use Rattle.trace_text.specs.Form.{pair_in}
use Rattle.job_script.proofs.Loops.{goes_on, stops, overflows, is_done}
use Rattle.trace_text.proofs.reading.act.all_pairs.Goals as goal

pub returns-in-None : goal.returns-in-None
returns-in-None c =
    let named = ap (λ v. pair_in (view v)) (sym c.item-item.is) ∙ sym c.pair_of.ensures ∙ c.in-None.is in
    sym (ap (at_most 16) (stops pair_in c.loop-item.pairs c.args.items.now c.loop-item.item-index c.item-item.result _ c.loop-item-test.true named c.loop-item.invariant.so_far))

pub returns-then-len-ge16 : goal.returns-then-len-ge16
returns-then-len-ge16 c =
    let named = ap (λ v. pair_in (view v)) (sym c.item-item.is) ∙ sym c.pair_of.ensures ∙ c.in-Some.is in
    sym (overflows pair_in 16 c.loop-item.pairs c.args.items.now c.loop-item.item-index c.item-item.result _ _ c.loop-item-test.true named (omega (arith, c.if-len-ge16.true, c.len.ensures.length)) c.loop-item.invariant.so_far)

pub loop-item-preserved : goal.loop-item-preserved
loop-item-preserved c =
    let named = ap (λ v. pair_in (view v)) (sym c.item-item.is) ∙ sym c.pair_of.ensures ∙ c.in-Some.is in
    rw c.push.ensures (record {
      so_far = goes_on pair_in c.loop-item.pairs c.args.items.now c.loop-item.item-index c.item-item.result _ _ c.loop-item-test.true named c.loop-item.invariant.so_far;
      few = omega (arith, c.if-len-ge16.false, c.len.ensures.length, length-append c.loop-item.pairs (c.in-Some.pair ∷ []));
    })

pub returns : goal.returns
returns c = sym (is_done pair_in 16 c.loop-item.pairs c.args.items.now c.loop-item.item-index _ c.loop-item-test.false c.loop-item.invariant.few c.loop-item.invariant.so_far)
