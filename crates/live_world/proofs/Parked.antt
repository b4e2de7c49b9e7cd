-- Who is parked waits, and so some task isn't parked as long as the root goes on.
use Rattle.std.proofs.Common.{◌≡◌, true, false, ◌==◌, ◌&&◌, not, refl, sym, ap, subst, ◌∙◌, inl, inr}
use Rattle.std.specs.List.{list_any}
use Rattle.std.specs.Prelude.{option_map, slice_get}
use Rattle.std.proofs.lemmas.Bool.{cases_Bool, and_right, and_parts, and_from, or_left, not-true, not_from_false, true≢false, true_from_ne_false}
use Rattle.phase_modes.specs.Lists.{is_empty}
use Rattle.finish_core.specs.declared.event.FinishEvent.TheVariants.{Shut as Shutting}
use Rattle.finish_core.specs.Finish.{all_ended}
use Rattle.world_model.specs.declared.event.WorldEvent.TheVariants.{Finish}
use Rattle.world_model.specs.Able.{is_able, tasks}
use Rattle.world_model.specs.Due.{due, or_single}
use Rattle.world_model.specs.Parts.{finish_past}
use Rattle.world_model.specs.Tasks.{is_born, is_ended}
use Rattle.world_model.proofs.FinishesLegal.{finishes_legal}
use Rattle.world_model.proofs.NeverStuck.{nobody_is_stuck}
use Rattle.world_model.proofs.NoneWaitsAlone.{tasks_born, found_in}
use Rattle.live_world.specs.Counts.{alive}
use Rattle.live_world.specs.Live.{live_limits, task_at, finish_at}
use Rattle.live_world.specs.StandsFor.{IsParked}
use Rattle.live_world.specs.Waits.{Waits, ShuttersWait}
use Rattle.live_world.specs.Laws.{ParkedTasksWait, NotAllAreParked}
use Rattle.live_world.proofs.Counted.{counts_tell}
use Rattle.live_world.proofs.Waiters.{waiters_are_not_able}

pub shutters_wait : ShuttersWait
shutters_wait l w t f ds k h = record {
  event = Finish f Shutting;
  next = ap (λ xs. option_map (or_single l w) (slice_get xs 0)) k;
  answered = rw h refl;
  continues = refl;
  no_reg = refl;
  busy = and_right (is_born t w && not (is_ended t w)) (is_empty (due t w)) (ap (λ xs. is_empty xs) k);
}

pub parked_tasks_wait : ParkedTasksWait
parked_tasks_wait w s st i taken parked =
    let p : IsParked w s i (task_at s i) = (st.tasks i taken).parked parked in
    let f = p.at.number in
    let row = st.finishes p.at.slot p.there.0 in
    let counted : (finish_at s p.at.slot).alive ≡ alive (finish_past f w) =
    row.alive ∙ ap (λ n. alive (finish_past n w)) p.there.1 in
    let some : all_ended (finish_past f w) ≡ false =
    counts_tell live_limits.tasks (finish_past f w) (finishes_legal live_limits w st.legal f)
    ∙ ap (λ n. n == 0) (sym counted) ∙ p.going in
    shutters_wait live_limits w (task_at s i).number f p.rest p.due_is some

pub not_all_are_parked : NotAllAreParked
not_all_are_parked w s st going =
    let some = list_any (λ t. not (is_ended t w)) (tasks w) in
    let able = list_any (is_able live_limits w) (tasks w) in
    let root : some ≡ true = or_left (not (is_ended 0 w)) _ (not_from_false (is_ended 0 w) going) in
    let is_one : able ≡ true =
    true_from_ne_false able (λ n. true≢false
    (sym (and_from some (not able) root (not_from_false able n)) ∙ nobody_is_stuck live_limits w st.legal)) in
    let t = found_in (is_able live_limits w) (tasks w) is_one in
    let goes : is_ended t.0 w ≡ false = not-true (is_ended t.0 w) (and_parts (not (is_ended t.0 w)) _ t.2).0 in
    let slot = st.here t.0 (tasks_born t.0 w t.1) goes in
    elim (cases_Bool (task_at s slot.0).parked) [
      | inr n ↦ (slot.0, slot.1, n)
      | inl p ↦
          let waits : Waits live_limits w (task_at s slot.0).number = parked_tasks_wait w s st slot.0 slot.1 p in
          absurd (true≢false (sym t.2 ∙ subst (λ n. is_able live_limits w n ≡ false) slot.2
          (waiters_are_not_able live_limits w (task_at s slot.0).number waits)))
    ]
