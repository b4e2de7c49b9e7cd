use Rattle.std.proofs.Common.{rules, List, subst}
use Rattle.std.proofs.lemmas.List.Sorted.{IsNonDecreasingBy-from_sort_by_key, answers_always}
use Rattle.std.specs.List.Sorted.{IsPermutation, IsStableByKey}
use Rattle.std.specs.Ordering.{nat_cmp}
use Rattle.trace_replay.specs.declared.merging.Mark.{Mark}
use Rattle.trace_replay.proofs.merging.in_order.Goals as goal

pub returns : goal.returns
returns c = record {
  as_often = subst (λ (ms : List Mark). IsPermutation ms c.sort_by_key.new.self.items) c.in_ok-marks.ensures c.sort_by_key.ensures.permutation;
  rising = IsNonDecreasingBy-from_sort_by_key (λ (m : Mark). m.ticket) _ c.in_ok-sort_by_key.ensures.sorted (λ a r q k. search rules);
  ties = subst (λ (ms : List Mark). IsStableByKey (λ (m : Mark). m.ticket) nat_cmp ms c.sort_by_key.new.self.items) c.in_ok-marks.ensures
      (c.sort_by_key.ensures.stable (λ (m : Mark). m.ticket) (answers_always _ _ _ (λ f a r g h. search rules)));
}
