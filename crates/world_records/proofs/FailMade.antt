-- A task that gives up what it is about: the answer is the history's, and the world stands for what follows.
use Rattle.std.proofs.Common.{◌≡◌, ◌⊎◌, ℕ, zero, suc, ◌<◌, ◌==◌, Bool, true, false, ◌&&◌, ◌||◌, not, cond, List, [], ◌∷◌, ◌++◌, map, Option, Some, None, length, get_or, slice_get, refl, sym, ap, subst, ◌∙◌, inl, inr, arith}
use Rattle.std.specs.Prelude.{flat_map, option_map}
use Rattle.std.specs.Option.{option_map_or}
use Rattle.std.proofs.lemmas.Bool.{cases_Bool, eq-eqb, eqb-true, not-true}
use Rattle.std.proofs.lemmas.List.{append-nil}
use Rattle.phase_modes.specs.Lists.{is_empty}
use Rattle.phase_modes.specs.declared.phased.Pair.{Pair}
use Rattle.phase_model.specs.Rules.{Story}
use Rattle.phase_model.specs.Replies as phaser
use Rattle.world_model.specs.declared.event.Step.TheVariants.{Sig, Claim, Did, Pass, Drop}
use Rattle.world_model.specs.declared.event.Begun.TheVariants.{Async, Signal, Wait, Next, NextSingle, Shut, End}
use Rattle.world_model.specs.declared.event.WorldEvent.{WorldEvent}
use Rattle.world_model.specs.declared.event.WorldEvent.TheVariants.{Phaser, Finish, Begin, Refuse, Fail}
use Rattle.world_model.specs.Parts.{phaser_past}
use Rattle.world_model.specs.Due.{due, unborn, drops_due, ending, fixed, is_idle, next_event}
use Rattle.world_model.specs.PartReplies.{call_for}
use Rattle.world_model.specs.Continuing.{next_done}
use Rattle.world_model.specs.GivingUp.{is_refused_by, is_reg, may_fail, done_where}
use Rattle.world_model.specs.Replies.{is_made, reply}
use Rattle.world_model.specs.TaskConditions.{last_entry}
use Rattle.world_model.proofs.SpawnUnderWay.{begins_spawn}
use Rattle.world_model.proofs.LeavesAtEnds.{leaves_act}
use Rattle.world_model.proofs.HalfSpawnedChild.{idle_unborn, spawning_unborn, other_unborn, child_of, is_failure}
use Rattle.world_model.proofs.LeaversNeverFail.{finish_never_fails, leavers_never_fail}
use Rattle.world_records.specs.declared.plan.Plan.{Plan}
use Rattle.world_records.specs.declared.plan.Plan.TheVariants as plan
use Rattle.world_records.specs.TaskState.{TaskState}
use Rattle.world_records.specs.WorldState.{WorldState}
use Rattle.world_records.specs.Kept.{blank_task, task_at, story_at, is_ready, is_idle_plan}
use Rattle.world_records.proofs.LimitsStay.{limits_where}
use Rattle.world_records.specs.StandsFor.{StandsFor, IsStep, end_of}
use Rattle.world_records.specs.Plans.{fits_plan}
use Rattle.world_records.specs.inner.Steps.{with_task, may_claim, may_report}
use Rattle.world_records.specs.inner.Queries.{turn_event, drop_or, reg_or, shut_or, next_by, kept_next}
use Rattle.world_records.specs.inner.Refusals.{refusal_in, is_make, given_up}
use Rattle.world_records.specs.inner.Failures.{next_refusal, has_number, may_fail_by, failed_by, failed, fail_state}
use Rattle.world_records.proofs.Ready.{ready_is_idle}
use Rattle.world_records.proofs.NextRead.{next_is}
use Rattle.world_records.proofs.CallsAsked.{same_number}
use Rattle.world_records.proofs.GivenUp.{fail_stands}
use Rattle.world_records.proofs.RefuseMade.{made_noted, not_noted}

-- what continues an act is a step on a phaser that is made already, or an event of a finish
abbrev is_going_on : WorldEvent → Bool
is_going_on (Phaser n x) = not (is_make (call_for x))
is_going_on (Finish f e) = true
is_going_on _ = false

drop_goes_on : (t : ℕ) (o : Option ℕ) (e : WorldEvent) → is_going_on e ≡ true → is_going_on (drop_or t o e) ≡ true
drop_goes_on t (Some n) e k = refl
drop_goes_on t None e k = k

turn_goes_on : (s : WorldState) (t n : ℕ) → is_going_on (turn_event s t n) ≡ true
turn_goes_on s t n = by (may_claim (story_at s n) t) (may_report (story_at s n) t)
  where
    by : (a b : Bool) → is_going_on (cond a (Phaser n (Claim t)) (cond b (Phaser n (Did t)) (Phaser n (Pass t)))) ≡ true
    by true b = refl
    by false true = refl
    by false false = refl

reg_goes_on : (t c f : ℕ) (o : Option Pair) (e : WorldEvent) → is_going_on e ≡ true → is_going_on (reg_or t c o e) ≡ true
reg_goes_on t c f (Some p) e k = refl
reg_goes_on t c f None e k = k

shut_goes_on : (o : Option ℕ) (e : WorldEvent) → is_going_on e ≡ true → is_going_on (shut_or o e) ≡ true
shut_goes_on (Some f) e k = refl
shut_goes_on None e k = k

end_goes_on : (t : ℕ) (k : TaskState) → is_going_on (end_of t k) ≡ true
end_goes_on t k = elim (cases_Bool (t == 0)) [ inl e ↦ rw e refl | inr e ↦ rw e refl ]

mapped_goes_on : (f : ℕ → WorldEvent) (o : Option ℕ) → ((n : ℕ) → is_going_on (f n) ≡ true) → option_map_or is_going_on (option_map f o) true ≡ true
mapped_goes_on f None k = refl
mapped_goes_on f (Some n) k = k n

next_goes_on : (s : WorldState) (t : ℕ) (k : TaskState) (p : Plan) → option_map_or is_going_on (next_by s t k p) true ≡ true
next_goes_on s t k plan.Idle = refl
next_goes_on s t k (plan.Signalling x turn) = mapped_goes_on (λ n. Phaser n (Sig t x)) (slice_get k.left 0) (λ n. refl)
next_goes_on s t k plan.Turning = mapped_goes_on (turn_event s t) (slice_get k.left 0) (turn_goes_on s t)
next_goes_on s t k (plan.Spawning c pairs made) = reg_goes_on t c 0 (slice_get pairs made) _ refl
next_goes_on s t k plan.Shutting = drop_goes_on t (slice_get k.left 0) _ refl
next_goes_on s t k (plan.Ending c) = drop_goes_on c (slice_get k.left 0) _ (drop_goes_on t (slice_get k.phasers 0) _ (shut_goes_on k.innermost (end_of t k) (end_goes_on t k)))

-- the next event is refused by this number where the history says so
module _ (s : WorldState) (w : List WorldEvent) (n : ℕ) (st : StandsFor w s) where
  refused_same : (o : Option WorldEvent) → option_map_or is_going_on o true ≡ true → (b : Bool) → (n == 7 || n == 15) ≡ b
      → (b && has_number (next_refusal s o) n) ≡ (b && option_map_or (λ e. is_refused_by n (next_done s.limits w e)) o false)
  refused_same None k b e = refl
  refused_same (Some (Phaser m x)) k b e =
      ap (λ v. b && v)
      (rw (not-true (is_make (call_for x)) k)
      (ap (λ (y : Story). has_number (refusal_in (phaser.returned y.past (phaser.reply y (call_for x)))) n) (st.phasers m).story ∙ same_number (phaser_past m w) _ n))
  refused_same (Some (Finish f d)) k true e = sym (finish_never_fails s.limits w f d n e)
  refused_same (Some (Finish f d)) k false e = refl
  refused_same (Some (Begin u b1)) k b e = absurd cc
  refused_same (Some (Refuse u a i)) k b e = absurd cc
  refused_same (Some (Fail u i)) k b e = absurd cc

pub may_fail_is : (s : WorldState) (w : List WorldEvent) (t n : ℕ) → StandsFor w s → may_fail_by s t n ≡ may_fail s.limits w t n
may_fail_is s w t n st =
    let k = task_at s t in
    let ready : is_ready k ≡ is_idle t w = ready_is_idle s.outers w t k (st.tasks t) in
    let next : kept_next s t ≡ next_event s.limits t w = next_is s t w st in
    let same = refused_same s w n st (kept_next s t) (next_goes_on s t k k.plan) (n == 7 || n == 15) refl in
    ap (λ a. a || (n == 14 && option_map_or is_reg (kept_next s t) false) || (n == 23 && is_ready k)) same
    ∙ (ap (λ o. ((n == 7 || n == 15) && option_map_or (λ e. is_refused_by n (next_done s.limits w e)) o false) || (n == 14 && option_map_or is_reg o false) || (n == 23 && is_ready k)) next
    ∙ ap (λ b. ((n == 7 || n == 15) && option_map_or (λ e. is_refused_by n (next_done s.limits w e)) (next_event s.limits t w) false) || (n == 14 && option_map_or is_reg (next_event s.limits t w) false) || (n == 23 && b)) ready)

-- a number without a line has nothing to give up
idle_fails : (a c d : Bool) → ((a && false) || (c && false) || (d && false)) ≡ true → ⊥
idle_fails true true true e = absurd cc
idle_fails true true false e = absurd cc
idle_fails true false true e = absurd cc
idle_fails true false false e = absurd cc
idle_fails false true true e = absurd cc
idle_fails false true false e = absurd cc
idle_fails false false true e = absurd cc
idle_fails false false false e = absurd cc

pub fail_within : (s : WorldState) (t n : ℕ) → may_fail_by s t n ≡ true → t < length s.tasks
fail_within s t n e = by (within s.tasks t) e
  where
    within : (ks : List TaskState) (i : ℕ) → (i < length ks) ⊎ (get_or ks i blank_task ≡ blank_task)
    within [] i = inr refl
    within (k ∷ ks) zero = inl (omega arith)
    within (k ∷ ks) (suc i) = elim (within ks i) [ inl h ↦ inl (omega (arith, h)) | inr h ↦ inr h ]

    by : (t < length s.tasks) ⊎ (task_at s t ≡ blank_task) → may_fail_by s t n ≡ true → t < length s.tasks
    by (inl h) k = h
    by (inr h) k =
        absurd (idle_fails (n == 7 || n == 15) (n == 14) (n == 23)
        (subst (λ x. (((n == 7 || n == 15) && has_number (next_refusal s (next_by s t x x.plan)) n) || (n == 14 && option_map_or is_reg (next_by s t x x.plan) false) || (n == 23 && is_ready x)) ≡ true) h k))

-- what a failure fixes where the task has no half spawned child, and where it has one
none_fixed : (t n : ℕ) (w : List WorldEvent) → unborn t w ≡ [] → fixed (Fail t n) w ≡ ending t w
none_fixed t n w e = ap (λ cs. flat_map (λ c. drops_due c w) cs ++ ending t w) e

one_fixed : (t n c : ℕ) (w : List WorldEvent) → unborn t w ≡ c ∷ [] → fixed (Fail t n) w ≡ drops_due c w ++ ending t w
one_fixed t n c w e = ap (λ cs. flat_map (λ x. drops_due x w) cs ++ ending t w) e ∙ ap (λ xs. xs ++ ending t w) (append-nil (drops_due c w))

-- what a plan says of the act that led to it
of_turn : (o : Option WorldEvent) → fits_plan plan.Turning o ≡ true → (is_failure o ≡ false) × (child_of o ≡ [])
of_turn (Some (Begin u Wait)) h = (refl, refl)
of_turn (Some (Begin u Next)) h = (refl, refl)
of_turn (Some (Begin u (NextSingle i))) h = (refl, refl)
of_turn o h = absurd cc

of_signals : (x : Option ℕ) (turn : Bool) (o : Option WorldEvent) → fits_plan (plan.Signalling x turn) o ≡ true → (is_failure o ≡ false) × (child_of o ≡ [])
of_signals x turn (Some (Begin u Signal)) h = (refl, refl)
of_signals x turn (Some (Begin u Next)) h = (refl, refl)
of_signals x turn (Some (Begin u (NextSingle i))) h = (refl, refl)
of_signals x turn o h = absurd cc

of_spawn : (c made : ℕ) (ps : List Pair) (o : Option WorldEvent) → fits_plan (plan.Spawning c ps made) o ≡ true → begins_spawn c o ≡ true
of_spawn c made ps (Some (Begin u (Async d qs))) h = eq-eqb d c (sym (eqb-true c d h))
of_spawn c made ps o h = absurd cc

of_shut : (o : Option WorldEvent) → fits_plan plan.Shutting o ≡ true → leaves_act o ≡ true
of_shut (Some (Begin u Shut)) h = refl
of_shut o h = absurd cc

of_end : (c : ℕ) (o : Option WorldEvent) → fits_plan (plan.Ending c) o ≡ true → leaves_act o ≡ true
of_end c (Some (Begin u End)) h = refl
of_end c (Some (Refuse u a i)) h = refl
of_end c (Some (Fail u i)) h = refl
of_end c o h = absurd cc

module _ (s : WorldState) (w : List WorldEvent) (t n : ℕ) (st : StandsFor w s) (allowed : may_fail_by s t n ≡ true) (accepted : is_made (reply s.limits w (Fail t n)) ≡ true) where
  -- without a half spawned child
  alone : unborn t w ≡ [] → StandsFor (Fail t n ∷ w) (with_task s t (given_up t n (task_at s t)))
  alone none = fail_stands s w t n t [] (none_fixed t n w none) st (fail_within s t n allowed) accepted

  idle_only : (a c d r : Bool) → ((a && false) || (c && false) || (d && r)) ≡ true → r ≡ true
  idle_only a c d true e = refl
  idle_only a c d false e = absurd (idle_fails a c d e)

  leaving : is_empty (due t w) ≡ false → leaves_act (last_entry t w) ≡ true → ⊥
  leaving busy act = leavers_never_fail s.limits t w n st.legal act busy (sym (may_fail_is s w t n st) ∙ allowed)

  by_plan : (p : Plan) → (task_at s t).plan ≡ p → StandsFor (Fail t n ∷ w) (with_task s t (failed_by s t n p (task_at s t)))
  by_plan plan.Idle e =
      let ready : is_ready (task_at s t) ≡ true = idle_only (n == 7 || n == 15) (n == 14) (n == 23) (is_ready (task_at s t))
      (subst (λ p. (((n == 7 || n == 15) && has_number (next_refusal s (next_by s t (task_at s t) p)) n) || (n == 14 && option_map_or is_reg (next_by s t (task_at s t) p) false) || (n == 23 && is_ready (task_at s t))) ≡ true) e allowed)
      in
      alone (idle_unborn s.limits t w st.legal (sym (ready_is_idle s.outers w t (task_at s t) (st.tasks t)) ∙ ready))
  by_plan (plan.Signalling x turn) e =
      let a = of_signals x turn (last_entry t w) (subst (λ p. fits_plan p (last_entry t w) ≡ true) e (st.tasks t).plan) in
      alone (other_unborn s.limits t w st.legal a.0 a.1)
  by_plan plan.Turning e =
      let a = of_turn (last_entry t w) (subst (λ p. fits_plan p (last_entry t w) ≡ true) e (st.tasks t).plan) in
      alone (other_unborn s.limits t w st.legal a.0 a.1)
  by_plan (plan.Spawning c ps made) e =
      let act = of_spawn c made ps (last_entry t w) (subst (λ p. fits_plan p (last_entry t w) ≡ true) e (st.tasks t).plan) in
      let busy : is_empty (due t w) ≡ false = sym (st.tasks t).idle ∙ ap (λ p. is_idle_plan p) e in
      let one : fixed (Fail t n) w ≡ drops_due c w ++ ending t w = one_fixed t n c w (spawning_unborn s.limits t c w st.legal act busy) in
      let held : drops_due c w ≡ map (λ m. Phaser m (Drop c)) (task_at s c).phasers = ap (λ ns. map (λ m. Phaser m (Drop c)) ns) (sym (st.tasks c).phasers) in
      fail_stands s w t n c (task_at s c).phasers (one ∙ ap (λ xs. xs ++ ending t w) held) st (fail_within s t n allowed) accepted
  by_plan plan.Shutting e =
      absurd (leaving (sym (st.tasks t).idle ∙ ap (λ p. is_idle_plan p) e) (of_shut (last_entry t w) (subst (λ p. fits_plan p (last_entry t w) ≡ true) e (st.tasks t).plan)))
  by_plan (plan.Ending c) e =
      absurd (leaving (sym (st.tasks t).idle ∙ ap (λ p. is_idle_plan p) e) (of_end c (last_entry t w) (subst (λ p. fits_plan p (last_entry t w) ≡ true) e (st.tasks t).plan)))

pub fail_is_step : (s : WorldState) (t n : ℕ) → IsStep (Fail t n) s (fail_state s t n) (done_where (may_fail_by s t n))
fail_is_step s t n = record {
  unchanged = not_noted (may_fail_by s t n) s (failed s t n);
  limits = limits_where (may_fail_by s t n) s (failed s t n) refl;
  answer = λ w st. ap (λ b. done_where b) (may_fail_is s w t n st);
  stands = λ w st made.
      let yes : may_fail_by s t n ≡ true = made_noted (may_fail_by s t n) made in
      let accepted : is_made (reply s.limits w (Fail t n)) ≡ true = ap (λ b. is_made (done_where b)) (sym (may_fail_is s w t n st)) ∙ made in
      rw yes (by_plan s w t n st yes accepted (task_at s t).plan refl);
}
