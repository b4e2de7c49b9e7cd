use Rattle.std.proofs.Common.{◌∷◌, [], sym, ap, ◌∙◌, arith, length-append}
use Rattle.serde_json.specs.View.{view}
use Rattle.job_script.specs.Words.{op_in, at_most}
use Rattle.job_script.proofs.Loops.{goes_on, stops, overflows, is_done}
use Rattle.job_script.proofs.items.ops_named.Goals as goal

pub returns-in-None : goal.returns-in-None
returns-in-None c =
    let named = ap (λ v. op_in (view v)) (sym c.item-item.is) ∙ sym c.op_of.ensures ∙ c.in-None.is in
    sym (ap (at_most 4) (stops op_in c.loop-item.ops c.args.items.now c.loop-item.item-index c.item-item.result _ c.loop-item-test.true named c.loop-item.invariant.so_far))

pub returns-then-len-ge4 : goal.returns-then-len-ge4
returns-then-len-ge4 c =
    let named = ap (λ v. op_in (view v)) (sym c.item-item.is) ∙ sym c.op_of.ensures ∙ c.in-Some.is in
    sym (overflows op_in 4 c.loop-item.ops c.args.items.now c.loop-item.item-index c.item-item.result _ _ c.loop-item-test.true named (omega (arith, c.if-len-ge4.true, c.len.ensures.length)) c.loop-item.invariant.so_far)

pub loop-item-preserved : goal.loop-item-preserved
loop-item-preserved c =
    let named = ap (λ v. op_in (view v)) (sym c.item-item.is) ∙ sym c.op_of.ensures ∙ c.in-Some.is in
    rw c.push.ensures (record {
      so_far = goes_on op_in c.loop-item.ops c.args.items.now c.loop-item.item-index c.item-item.result _ _ c.loop-item-test.true named c.loop-item.invariant.so_far;
      few = omega (arith, c.if-len-ge4.false, c.len.ensures.length, length-append c.loop-item.ops (c.in-Some.op ∷ []));
    })

pub returns : goal.returns
returns c = sym (is_done op_in 4 c.loop-item.ops c.args.items.now c.loop-item.item-index _ c.loop-item-test.false c.loop-item.invariant.few c.loop-item.invariant.so_far)
