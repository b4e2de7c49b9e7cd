-- Nobody is registered where an explained run has ended.
use Rattle.std.proofs.Common.{◌≡◌, true, List, [], ◌∷◌, reverse, Ok, is_none, refl, ap, ◌∙◌, inl, inr}
use Rattle.std.proofs.lemmas.Bool.{and_parts, or_cases, or_right, false≢true}
use Rattle.finish_core.specs.declared.event.FinishEvent.TheVariants.{Shut}
use Rattle.world_model.specs.Report.{Report}
use Rattle.world_model.specs.Tasks.{ends, is_ended}
use Rattle.world_model.proofs.RootEndsLast.{ended_roots_leave_nobody}
use Rattle.trace_model.specs.Run.{Entry, Run}
use Rattle.trace_model.specs.Explained.{past, event_of, ends_run, is_over, all_follow, is_explained}
use Rattle.trace_model.specs.declared.event.TracedEvent.{TracedEvent}
use Rattle.trace_model.specs.declared.event.TracedEvent.TheVariants.{Finish}
use Rattle.trace_model.proofs.Faults.{faultless}
use Rattle.trace_model.proofs.Legal.{following_is_legal}
use Rattle.trace_replay.specs.Replaying.{Replays}
use Rattle.phased_rt.specs.Left.{IsLeftByAll}

-- the event that ends the run ends the root
ends_root : (e : TracedEvent) → ends_run e ≡ true → ends 0 (event_of e) ≡ true
ends_root (Finish f Shut) h = rw h refl
ends_root e h = absurd cc

pub over_ended : (es : List Entry) → is_over es ≡ true → is_ended 0 (past es) ≡ true
over_ended [] h = absurd (false≢true h)
over_ended (e ∷ es) h =
    elim (or_cases (ends_run e.1) (is_over es) h) [
      | inl x ↦ rw (ends_root e.1 x) refl
      | inr y ↦ or_right (ends 0 (event_of e.1)) (is_ended 0 (past es)) (over_ended es y)
    ]

left_by_all : (r : Run) → is_explained r ≡ true → IsLeftByAll r.events
left_by_all r h =
    let es = reverse r.events in
    let parts = and_parts (all_follow r.limits es) (is_over es) h in
    (ended_roots_leave_nobody r.limits (past es) (following_is_legal r.limits es parts.0) (over_ended es parts.1)).1

pub left_where_replayed : (r : Run) (world : Report) → Replays r (Ok world) → IsLeftByAll r.events
left_where_replayed r world is = left_by_all r (faultless r ∙ ap (λ o. is_none o) is.0)
