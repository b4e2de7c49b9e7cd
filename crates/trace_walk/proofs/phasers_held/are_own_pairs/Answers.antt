use Rattle.std.proofs.Common.{ℕ, ◌≡◌, ◌<◌, ◌≤◌, ⊎_elim, false, List, [], Some, nat_eq, drop, length, get_or, slice_get, take, sym, ap, arith, ◌∙◌}
use Rattle.std.specs.List.{filter_map}
use Rattle.std.proofs.lemmas.Bool.{cases_eq, eq-eqb, eqb-true, false_from_ne_true}
use Rattle.std.proofs.lemmas.List.{at_drop_more, at_drop_all, length-take-le}
use Rattle.phase_modes.specs.declared.reg.Mode.TheVariants.{Wait}
use Rattle.phase_modes.specs.declared.phased.Pair.{Pair}
use Rattle.trace_walk.specs.Follows.{same_pairs}
use Rattle.trace_model.specs.Explained.{event_of, past}
use Rattle.trace_model.specs.Run.{Entry}
use Rattle.trace_model.specs.Views.{viewed}
use Rattle.trace_walk.specs.History.{history}
use Rattle.trace_walk.specs.inner.Holding.{pair_by}
use Rattle.trace_walk.proofs.Histories.{entry_before}
use Rattle.trace_walk.proofs.OwnPairs.{own_by_events, rest_same, none_given, too_many, other_given, pair_given}
use Rattle.trace_walk.proofs.phasers_held.are_own_pairs.Goals as goal
use Rattle.trace_walk.proofs.phasers_held.are_own_pairs.Goals.{then-found-pairs-via-then-found-pairs, then-found-pairs-via-else-found-pairs+then-not-is_same_pair, in-Some+else-found-pairs+else-not-is_same_pair, in_default}

-- no pair is left where as many were found
none_left : (xs : List Pair) (k : ℕ) → k ≤ length xs → nat_eq k (length xs) ≡ same_pairs (drop k xs) []
none_left xs k h =
    ⊎_elim
    (λ (e : k ≡ length xs). eq-eqb k (length xs) e
    ∙ sym (at_drop_all (λ (ys : List Pair). same_pairs ys []) xs k (omega arith)))
    (λ (ne : k ≡ length xs → ⊥). false_from_ne_true (nat_eq k (length xs))
    (λ t. ne (eqb-true k (length xs) t))
    ∙ sym (at_drop_more (λ (ys : List Pair). same_pairs ys []) xs k (record { phaser = 0; mode = Wait })
    (omega arith)))
    (cases_eq k (length xs))

pub loop-place-init : goal.loop-place-init
loop-place-init c = record {
  few = omega arith;
  so_far =
      ap (λ (ps : List Pair). same_pairs c.args.pairs.now ps)
      (own_by_events c.args.task (past (take c.args.count c.args.trace.now.events)));
}

pub returns-then-found-pairs : goal.returns-then-found-pairs
returns-then-found-pairs c =
    let all : List Entry = c.args.trace.now.events in
    let es : List Entry = take c.args.count all in
    let t = c.args.task in
    let ps : List Pair = c.args.pairs.now in
    let i = c.loop-place.place in
    let k = c.loop-place.found in
    let e : Entry = (c.entry.result.0, viewed c.entry.result.1) in
    let at : slice_get all i ≡ Some e = c.entry.ensures in
    let less : i < length es = omega (arith, c.loop-place-test.true, length-take-le c.args.count all c.requires) in
    let stands : e ≡ get_or es i e = entry_before all c.args.count i e c.loop-place-test.true at in
    let gives : pair_by t (history es) (event_of e.1) ≡ Some c.in-Some.own = sym c.in-Some.ensures in
    let false_here : rest_same t (history es) ps es k i ≡ false =
    elim c.then-found-pairs.branch [
      | then-found-pairs-via-then-found-pairs w ↦ too_many t (history es) ps es k i e less stands c.in-Some.own gives w.if-found-pairs.true
      | then-found-pairs-via-else-found-pairs+then-not-is_same_pair w ↦
          other_given t (history es) ps es k i e less stands c.in-Some.own gives _ w.if-found-pairs.false
          (sym w.is_same_pair.ensures ∙ w.if-not-is_same_pair.true)
    ] in
    sym false_here ∙ c.loop-place.invariant.so_far

pub loop-place-preserved : goal.loop-place-preserved
loop-place-preserved c =
    let all : List Entry = c.args.trace.now.events in
    let es : List Entry = take c.args.count all in
    let t = c.args.task in
    let ps : List Pair = c.args.pairs.now in
    let i = c.loop-place.place in
    let k = c.loop-place.found in
    let e : Entry = (c.entry.result.0, viewed c.entry.result.1) in
    let at : slice_get all i ≡ Some e = c.entry.ensures in
    let less : i < length es = omega (arith, c.loop-place-test.true, length-take-le c.args.count all c.requires) in
    let stands : e ≡ get_or es i e = entry_before all c.args.count i e c.loop-place-test.true at in
    elim c.match-pair_by.branch [
      | in-Some+else-found-pairs+else-not-is_same_pair w ↦ rw w.found-is (record {
        few = omega (arith, w.if-found-pairs.false);
        so_far =
            sym (pair_given t (history es) ps es k i e less stands w.in-Some.own (sym w.in-Some.ensures) _ w.if-found-pairs.false
            (sym w.is_same_pair.ensures ∙ w.if-not-is_same_pair.false))
            ∙ c.loop-place.invariant.so_far;
      })
      | in_default w ↦ rw w.found-is (record {
        few = c.loop-place.invariant.few;
        so_far = sym (none_given t (history es) ps es k i e less stands (sym w.in_default.ensures)) ∙ c.loop-place.invariant.so_far;
      })
    ]

pub returns : goal.returns
returns c =
    let es : List Entry = take c.args.count c.args.trace.now.events in
    let over : length es ≤ c.loop-place.place =
    omega (arith, c.loop-place-test.false, length-take-le c.args.count c.args.trace.now.events c.requires) in
    none_left c.args.pairs.now c.loop-place.found c.loop-place.invariant.few
    ∙ (sym
    (at_drop_all (λ (ys : List Entry). same_pairs (drop c.loop-place.found c.args.pairs.now)
    (filter_map (pair_by c.args.task (history es)) (past ys))) es c.loop-place.place over)
    ∙ c.loop-place.invariant.so_far)
