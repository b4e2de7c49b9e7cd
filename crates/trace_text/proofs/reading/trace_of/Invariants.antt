use Rattle.std.proofs.Common.{◌≡◌, ◌+◌, drop}
use Rattle.serde_json.specs.View.{items_view}
use Rattle.job_script.specs.Words.{numbered_in}
use Rattle.trace_text.specs.Form.{entry_in}
use Rattle.job_script.proofs.Loops.{front_then}
use Rattle.trace_text.proofs.reading.trace_of.Given as goal

abbrev pub invariant-loop-index : goal.invariant-loop-index
invariant-loop-index l = record {
  so_far : front_then l.trace.events (numbered_in (entry_in l.fn.version) (l.index + 1) (items_view (drop l.index l.items))) ≡ numbered_in (entry_in l.fn.version) 1 (items_view l.items);
  limits : l.trace.limits ≡ l.fn.limits;
}
