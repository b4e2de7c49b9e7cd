use Rattle.std.proofs.Common.{◌∷◌, [], sym, ap, ◌∙◌, arith, map, option_map, length-append}
use Rattle.std.proofs.lemmas.List.{map-append, length-map}
use Rattle.serde_json.specs.View.{view, items_view}
use Rattle.job_script.specs.ActForms.{pair_in}
use Rattle.job_script.specs.inner.SaidViews.{pair_view}
use Rattle.job_script.specs.Words.{all_in, at_most}
use Rattle.job_script.proofs.Loops.{goes_on, stops, overflows, is_done, none_before}
use Rattle.job_script.proofs.said.pairs_of.Goals as goal

pub loop-item-init : goal.loop-item-init
loop-item-init c = rw c.new-pairs.ensures.items (record { so_far = none_before (all_in pair_in (items_view c.args.items.now)); few = omega arith })

pub returns-in-None-clause-pairs : goal.returns-in-None-clause-pairs
returns-in-None-clause-pairs c =
    let paired = ap (λ v. pair_in (view v)) (sym c.item-item.is) ∙ sym c.pair_of.ensures ∙ ap (option_map pair_view) c.in-None.is in
    sym (ap (at_most 16) (stops pair_in (map pair_view c.loop-item.pairs.items) c.args.items.now c.loop-item.item-index c.item-item.result _ c.loop-item-test.true paired c.loop-item.invariant.so_far))

pub returns-then-len-ge16-clause-pairs : goal.returns-then-len-ge16-clause-pairs
returns-then-len-ge16-clause-pairs c =
    let paired = ap (λ v. pair_in (view v)) (sym c.item-item.is) ∙ sym c.pair_of.ensures ∙ ap (option_map pair_view) c.in-Some.is in
    sym (overflows pair_in 16 (map pair_view c.loop-item.pairs.items) c.args.items.now c.loop-item.item-index c.item-item.result _ _ c.loop-item-test.true paired (omega (arith, c.if-len-ge16.true, c.len.ensures, c.loop-item.pairs.ok.0, length-map c.loop-item.pairs.items pair_view)) c.loop-item.invariant.so_far)

pub loop-item-preserved : goal.loop-item-preserved
loop-item-preserved c =
    let paired = ap (λ v. pair_in (view v)) (sym c.item-item.is) ∙ sym c.pair_of.ensures ∙ ap (option_map pair_view) c.in-Some.is in
    rw (c.in_ok-push-in-Some.ensures.items, map-append) (record {
      so_far = goes_on pair_in (map pair_view c.loop-item.pairs.items) c.args.items.now c.loop-item.item-index c.item-item.result _ _ c.loop-item-test.true paired c.loop-item.invariant.so_far;
      few = omega (arith, c.if-len-ge16.false, c.len.ensures, c.loop-item.pairs.ok.0, length-append c.loop-item.pairs.items (c.in-Some.pair ∷ []));
    })

pub returns-clause-pairs : goal.returns-clause-pairs
returns-clause-pairs c = sym (is_done pair_in 16 (map pair_view c.loop-item.pairs.items) c.args.items.now c.loop-item.item-index _ c.loop-item-test.false (omega (arith, c.loop-item.invariant.few, length-map c.loop-item.pairs.items pair_view)) c.loop-item.invariant.so_far)
