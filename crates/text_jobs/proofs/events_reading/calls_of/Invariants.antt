use Rattle.std.proofs.Common.{◌≡◌, ◌+◌, drop}
use Rattle.serde_json.specs.View.{items_view}
use Rattle.job_script.specs.Words.{numbered_in}
use Rattle.job_script.proofs.Loops.{front_then}
use Rattle.text_jobs.specs.EventsForm.{call_in}
use Rattle.text_jobs.proofs.events_reading.calls_of.Given as goal

abbrev pub invariant-loop-index : goal.invariant-loop-index
invariant-loop-index l = front_then l.calls.items (numbered_in call_in (l.index + 1) (items_view (drop l.index l.items))) ≡ numbered_in call_in 1 (items_view l.items)
