use Rattle.std.proofs.Common.{◌≡◌, ◌≤◌, drop, length, map}
use Rattle.job_script.specs.Names.{numbered}
use Rattle.job_script.specs.inner.SaidViews.{pair_view}
use Rattle.job_script.proofs.Numbering.{after_front}
use Rattle.job_script.proofs.reading.numbered.Given as goal

abbrev pub invariant-loop-pair : goal.invariant-loop-pair
invariant-loop-pair l = record {
  so_far : after_front l.list (numbered l.seen l.place (map pair_view (drop l.pair-index l.pairs))) ≡ numbered l.fn.seen l.place (map pair_view l.pairs);
  count : length l.list ≡ l.pair-index;
  few : length l.pairs ≤ 16;
}
