-- Beside one whole run in which nobody is refused, room and memory are all that luck decides.
use Rattle.std.proofs.Common.{◌≡◌, ℕ, true, false, not, List, [], ◌∷◌, None, refl, sym, subst, ap, ◌∙◌}
use Rattle.std.specs.List.{list_all}
use Rattle.std.proofs.lemmas.Bool.{and_parts, and_from, true≢false, false≢true}
use Rattle.phase_modes.specs.declared.limits.Limits.{Limits}
use Rattle.job_script.specs.declared.act.Answer.{Answer}
use Rattle.world_model.specs.declared.event.WorldEvent.{WorldEvent}
use Rattle.world_model.specs.declared.event.WorldEvent.TheVariants.{Phaser, Finish, Begin, Refuse, Fail}
use Rattle.world_model.specs.Replies.{is_legal_world, is_accepted}
use Rattle.world_model.specs.Report.{refused_by}
use Rattle.world_model.specs.Tasks.{is_ended}
use Rattle.world_model.proofs.MadeMeans.{last_accepted}
use Rattle.trace_walk.specs.Going.{is_next, goes_by}
use Rattle.trace_walk.specs.Walking.{Does}
use Rattle.trace_walk.specs.Scripts.{Numbers, act_of}
use Rattle.run_laws.specs.Telling.{Told, draws_next, draws_by}
use Rattle.run_laws.specs.Determinacy.{RoomIsAllLuck, wants_no_room, is_of_room}
use Rattle.run_laws.proofs.Others.{is_refusal}
use Rattle.run_laws.proofs.Twins.{is_calm}
use Rattle.run_laws.proofs.NextEvents.{IsGoing, going}
use Rattle.run_laws.proofs.Refusals.{refusals_are_of_room}
use Rattle.run_laws.proofs.Failures.{failures_are_of_room}
use Rattle.run_laws.proofs.Reports.{runs_come_to_the_same}

-- who isn't in a refusal isn't refused
pub calm_unrefused : (w : List WorldEvent) → is_calm w ≡ true → (t : ℕ) → refused_by t w ≡ None
calm_unrefused [] c t = refl
calm_unrefused (Refuse u a x ∷ w) c t = absurd (false≢true (and_parts false (is_calm w) c).0)
calm_unrefused (Fail u x ∷ w) c t = absurd (false≢true (and_parts false (is_calm w) c).0)
calm_unrefused (Phaser n s ∷ w) c t = calm_unrefused w (and_parts true (is_calm w) c).1 t
calm_unrefused (Finish n s ∷ w) c t = calm_unrefused w (and_parts true (is_calm w) c).1 t
calm_unrefused (Begin n s ∷ w) c t = calm_unrefused w (and_parts true (is_calm w) c).1 t

module _ {B : Type 0} (next : Answer → B → Does B) (root : B) (names : ℕ → List Told → Numbers) (l : Limits)
    (v : List WorldEvent) (going_v : IsGoing next root names l v) (over : is_ended 0 v ≡ true) where
  -- an event that wants no room is no refusal
  no_refusal_here : (e : WorldEvent) (w : List WorldEvent) → IsGoing next root names l w → is_accepted l w e ≡ true
      → is_next next root w (act_of e) ≡ true → draws_next names w (act_of e) ≡ true → wants_no_room e ≡ true
      → is_refusal e ≡ false
  no_refusal_here (Refuse t a n) w g m i d r =
      let is : n ≡ 15 = refusals_are_of_room next root names l v going_v over w g t a n m i d in
      absurd (false≢true (subst (λ x. not (is_of_room x) ≡ true) is r))
  no_refusal_here (Fail t n) w g m i d r =
      absurd (true≢false (sym r ∙ ap (λ b. not b) (failures_are_of_room next root names l v going_v over w g t n m)))
  no_refusal_here (Phaser n s) w g m i d r = refl
  no_refusal_here (Finish n s) w g m i d r = refl
  no_refusal_here (Begin n s) w g m i d r = refl

  all_going : (w : List WorldEvent) → is_legal_world l w ≡ true → goes_by next root w ≡ true → draws_by names w ≡ true
      → list_all wants_no_room w ≡ true → IsGoing next root names l w
  all_going [] k i d r = record { legal = k; goes = i; draws = d; calm = refl }
  all_going (e ∷ w) k i d r =
      let a = last_accepted l e w k in
      let b = and_parts (is_next next root w (act_of e)) (goes_by next root w) i in
      let c = and_parts (draws_next names w (act_of e)) (draws_by names w) d in
      let q = and_parts (wants_no_room e) (list_all wants_no_room w) r in
      let g = all_going w a.1 b.1 c.1 q.1 in
      record {
        legal = k;
        goes = i;
        draws = d;
        calm = and_from (not (is_refusal e)) (is_calm w)
            (ap (λ x. not x) (no_refusal_here e w g a.0 b.0 c.0 q.0)) g.calm;
      }

pub room_is_all_luck : {B : Type 0} (next : Answer → B → Does B) → RoomIsAllLuck next
room_is_all_luck next root names l v w run k i d r =
    let g =
    all_going next root names l v (going next root names l v run.whole.smooth run.draws) run.whole.ended w k i d r in
    let none = calm_unrefused w g.calm in (
      none,
      λ ended. runs_come_to_the_same next root names l v w run
          (record { whole = record { smooth = record { legal = k; goes = i; unrefused = none }; ended = ended }; draws = d }),
    )
