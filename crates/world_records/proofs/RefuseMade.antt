-- An act that its task notes to be refused: the answer is the history's, and the world stands for what follows.
use Rattle.std.proofs.Common.{◌≡◌, ℕ, ◌<◌, ◌==◌, Bool, true, false, ◌&&◌, not, cond, List, Option, Some, None, length, Ok, refl, sym, ap, ◌∙◌}
use Rattle.std.proofs.lemmas.Bool.{eqb-true, false≢true}
use Rattle.phase_modes.specs.declared.refusal.Refusal.{Refusal}
use Rattle.phase_modes.specs.declared.refusal.Refusal.TheVariants.{NotNow}
use Rattle.phase_modes.specs.Refusal.{first_refusal}
use Rattle.phase_model.specs.declared.history.Event.{Event}
use Rattle.phase_model.specs.declared.call.Call.TheVariants.{Make as make, Send as send, Look as look}
use Rattle.phase_model.specs.Rules.{Story}
use Rattle.phase_model.specs.Replies as phaser
use Rattle.world_model.specs.declared.event.Tried.{Tried}
use Rattle.world_model.specs.declared.event.Tried.TheVariants.{Begun as Beginning, New, Open, Send as Sending, Look as Looking}
use Rattle.world_model.specs.declared.event.WorldEvent.{WorldEvent}
use Rattle.world_model.specs.declared.event.WorldEvent.TheVariants.{Refuse}
use Rattle.world_model.specs.declared.reply.Reply.TheVariants.{Done}
use Rattle.world_model.specs.Parts.{phaser_past}
use Rattle.world_model.specs.PartReplies.{returned}
use Rattle.world_model.specs.Acts.{act_conditions, act_reply, unless}
use Rattle.world_model.specs.GivingUp.{is_refused_by, may_refuse, done_where}
use Rattle.world_model.specs.Replies.{is_made, reply}
use Rattle.world_records.specs.WorldState.{WorldState}
use Rattle.world_records.specs.Kept.{task_at, is_ready}
use Rattle.world_records.proofs.LimitsStay.{limits_where}
use Rattle.world_records.specs.StandsFor.{StandsFor, IsStep}
use Rattle.world_model.specs.ActConditions.{free_unless}
use Rattle.world_records.specs.inner.Steps.{with_task, done_unless, first_conditions, open_conditions}
use Rattle.world_records.specs.inner.Refusals.{refusal_in, phaser_refusal, or_then, act_refusal, is_noted, refuse_noted, given_up, where_noted, refuse_state}
use Rattle.world_records.specs.inner.Failures.{has_number}
use Rattle.world_records.proofs.Ready.{ready_is_idle, ready_within}
use Rattle.world_records.proofs.BeginsAsked.{begin_is_refused}
use Rattle.world_records.proofs.OpenMade.{open_answers}
use Rattle.world_records.proofs.MakeMade.{conditions_are}
use Rattle.world_records.proofs.CallsAsked.{same_number}
use Rattle.world_records.proofs.GivenUp.{refuse_stands}

-- the two numbers that are never noted
abbrev may_note : ℕ → Bool → Bool
may_note n b = b && not (n == 22) && not (n == 23)

noted_is : (o : Option Refusal) (n : ℕ) → is_noted (free_unless o) n ≡ may_note n (has_number o n)
noted_is None n = refl
noted_is (Some r) n = refl

done_number : (o : Option Refusal) (n : ℕ) → has_number o n ≡ is_refused_by n (unless o (Ok Done))
done_number None n = refl
done_number (Some r) n = refl

open_number : (o : Option Refusal) (n : ℕ) → has_number o n ≡ is_refused_by n (done_unless o)
open_number None n = refl
open_number (Some r) n = refl

-- what is refused before its phaser is asked, or by it
both_number : (o : Option Refusal) (h : List Event) (r : phaser.Reply) (n : ℕ) → has_number (or_then o (refusal_in (phaser.returned h r))) n ≡ is_refused_by n (unless o (returned h r))
both_number None h r n = same_number h r n
both_number (Some x) h r n = refl

module _ (s : WorldState) (w : List WorldEvent) (t n : ℕ) (st : StandsFor w s) where
  -- an act is refused by this number where the history says so
  number_is : (a : Tried) → has_number (act_refusal s t a) n ≡ is_refused_by n (act_reply s.limits w t a)
  number_is (Beginning b) =
      ap (λ o. has_number o n) (begin_is_refused s w t st b) ∙ done_number (first_refusal (act_conditions s.limits w t (Beginning b))) n
  number_is (Open f) = open_number (first_refusal (open_conditions s f t)) n ∙ ap (λ r. is_refused_by n r) (open_answers s w f t st)
  number_is (New m mode terms) =
      ap (λ o. has_number (or_then o (phaser_refusal s m (make t mode))) n) (conditions_are s w m t mode terms st)
      ∙ (ap (λ (y : Story). has_number (or_then (first_refusal (act_conditions s.limits w t (New m mode terms))) (refusal_in (phaser.returned y.past (phaser.reply y (make t mode))))) n) (st.phasers m).story
      ∙ both_number (first_refusal (act_conditions s.limits w t (New m mode terms))) (phaser_past m w) _ n)
  number_is (Sending m a v) =
      let first : first_refusal (first_conditions s t false true) ≡ first_refusal (act_conditions s.limits w t (Sending m a v)) = rw (ready_is_idle s.outers w t (task_at s t) (st.tasks t), (st.tasks t).acts) refl in
      ap (λ o. has_number (or_then o (phaser_refusal s m (send t a v))) n) first
      ∙ (ap (λ (y : Story). has_number (or_then (first_refusal (act_conditions s.limits w t (Sending m a v))) (refusal_in (phaser.returned y.past (phaser.reply y (send t a v))))) n) (st.phasers m).story
      ∙ both_number (first_refusal (act_conditions s.limits w t (Sending m a v))) (phaser_past m w) _ n)
  number_is (Looking m a) =
      let first : first_refusal (first_conditions s t false true) ≡ first_refusal (act_conditions s.limits w t (Looking m a)) = rw (ready_is_idle s.outers w t (task_at s t) (st.tasks t), (st.tasks t).acts) refl in
      ap (λ o. has_number (or_then o (phaser_refusal s m (look t a))) n) first
      ∙ (ap (λ (y : Story). has_number (or_then (first_refusal (act_conditions s.limits w t (Looking m a))) (refusal_in (phaser.returned y.past (phaser.reply y (look t a))))) n) (st.phasers m).story
      ∙ both_number (first_refusal (act_conditions s.limits w t (Looking m a))) (phaser_past m w) _ n)

  noted_as : (a : Tried) → refuse_noted s t a n ≡ may_refuse s.limits w t a n
  noted_as a = noted_is (act_refusal s t a) n ∙ ap (λ b. may_note n b) (number_is a)

-- what is noted is no wrong moment, so the task is ready
never_now : (n : ℕ) → is_noted (free_unless (Some NotNow)) n ≡ true → ⊥
never_now n e = by (22 == n) refl e
  where
    by : (b : Bool) → (22 == n) ≡ b → (b && not (n == 22) && not (n == 23)) ≡ true → ⊥
    by false k h = absurd cc
    by true k h = false≢true (sym (ap (λ m. not (m == 22) && not (m == 23)) (sym (eqb-true 22 n k))) ∙ h)

noted_ready : (a : Bool) (o p : Option Refusal) (n : ℕ) → is_noted (free_unless (or_then (cond a o (Some NotNow)) p)) n ≡ true → a ≡ true
noted_ready true o p n e = refl
noted_ready false o p n e = absurd (never_now n e)

first_ready : (a : Bool) (o : Option Refusal) (n : ℕ) → is_noted (free_unless (cond a o (Some NotNow))) n ≡ true → a ≡ true
first_ready true o n e = refl
first_ready false o n e = absurd (never_now n e)

pub noted_within : (s : WorldState) (t n : ℕ) (a : Tried) → refuse_noted s t a n ≡ true → t < length s.tasks
noted_within s t n a e = ready_within s.tasks t (by a e)
  where
    by : (b : Tried) → refuse_noted s t b n ≡ true → is_ready (task_at s t) ≡ true
    by (Beginning b) h = first_ready (is_ready (task_at s t)) _ n h
    by (New m mode terms) h = noted_ready (is_ready (task_at s t)) _ _ n h
    by (Open f) h = first_ready (is_ready (task_at s t)) _ n h
    by (Sending m c v) h = noted_ready (is_ready (task_at s t)) _ _ n h
    by (Looking m c) h = noted_ready (is_ready (task_at s t)) _ _ n h

pub made_noted : (b : Bool) → is_made (done_where b) ≡ true → b ≡ true
made_noted true e = refl
made_noted false e = absurd cc

pub not_noted : (b : Bool) (s new : WorldState) → is_made (done_where b) ≡ false → where_noted b s new ≡ s
not_noted true s new e = absurd cc
not_noted false s new e = refl

pub refuse_is_step : (s : WorldState) (t : ℕ) (a : Tried) (n : ℕ) → IsStep (Refuse t a n) s (refuse_state s t n (refuse_noted s t a n)) (done_where (refuse_noted s t a n))
refuse_is_step s t a n = record {
  unchanged = not_noted (refuse_noted s t a n) s (with_task s t (given_up t n (task_at s t)));
  limits = limits_where (refuse_noted s t a n) s (with_task s t (given_up t n (task_at s t))) refl;
  answer = λ w st. ap (λ b. done_where b) (noted_as s w t n st a);
  stands = λ w st made.
      let yes : refuse_noted s t a n ≡ true = made_noted (refuse_noted s t a n) made in
      let accepted : is_made (reply s.limits w (Refuse t a n)) ≡ true = ap (λ b. is_made (done_where b)) (sym (noted_as s w t n st a)) ∙ made in
      rw yes (refuse_stands s w t n a st (noted_within s t n a yes) accepted);
}
