-- A pass of an act under way: the answer is the history's, and the world stands for what follows.
use Rattle.std.proofs.Common.{◌≡◌, ℕ, zero, suc, ◌+◌, ◌<◌, ◌==◌, Bool, true, false, ◌&&◌, not, min, cond, List, [], ◌∷◌, map, drop, Option, Some, None, length, get_or, Result, Ok, Err, refl, sym, ap, subst, ◌∙◌, arith}
use Rattle.std.proofs.lemmas.Bool.{eq-eqb, eqb-true, and_parts, not-true}
use Rattle.phase_modes.specs.Lists.{is_empty, is_one}
use Rattle.phase_modes.specs.declared.limits.Limits.{Limits}
use Rattle.phase_modes.specs.declared.refusal.Refusal.{Refusal}
use Rattle.phase_modes.specs.declared.refusal.Refusal.TheVariants.{NotNow}
use Rattle.phase_model.specs.declared.history.Event.{Event}
use Rattle.phase_model.specs.declared.history.Event.TheVariants.{Claim as Claimed, Did as Reported, Pass as Gone}
use Rattle.phase_model.specs.Rules.{Story, is_permitted}
use Rattle.phase_model.specs.Replies as phaser
use Rattle.phase_model.specs.Replies.{decided, done}
use Rattle.phase_model.specs.declared.call.Call.TheVariants.{Pass as pass}
use Rattle.phase_model.specs.declared.answer.Passing.{Passing}
use Rattle.phase_model.specs.declared.answer.Passing.TheVariants.{Passed, Claimed as Claims, NotYet as Waits}
use Rattle.phase_model.specs.Answers.{pass_result}
use Rattle.world_model.specs.declared.event.Step.TheVariants.{Pass}
use Rattle.world_model.specs.declared.event.WorldEvent.{WorldEvent}
use Rattle.world_model.specs.declared.event.WorldEvent.TheVariants.{Phaser}
use Rattle.world_records.specs.declared.plan.Plan.{Plan}
use Rattle.world_records.specs.declared.plan.Plan.TheVariants as plan
use Rattle.world_model.specs.declared.reply.Reply.{Reply}
use Rattle.world_records.specs.TaskState.{TaskState}
use Rattle.world_records.specs.WorldState.{WorldState}
use Rattle.world_records.specs.Kept.{blank_task, blank_story, task_at, story_at, is_idle_plan}
use Rattle.world_model.specs.Parts.{phaser_past, terms_of}
use Rattle.world_model.specs.Scopes.{open_finishes}
use Rattle.world_model.specs.Due.{due}
use Rattle.world_model.specs.Clock.{clock}
use Rattle.world_model.specs.TaskConditions.{last_entry}
use Rattle.world_model.specs.PartReplies.{returned, phaser_reply}
use Rattle.world_model.specs.Replies.{reply, is_made}
use Rattle.world_records.specs.inner.Steps.{is_first, wants_pass, is_to_pass, may_claim, may_report, pass_asked, passed_on, reply_by_pass, pass_outcome, pass_answer, pass_state, state_by_pass, note_pass, pass_noted, phaser_called, with_task}
use Rattle.world_records.proofs.LimitsStay.{limits_by_pass}
use Rattle.world_records.specs.StandsFor.{TaskStands, StandsFor, IsStep, due_by}
use Rattle.world_records.specs.Plans.{fits_plan, has_left}
use Rattle.world_model.proofs.OthersLeave.{due_own}
use Rattle.world_records.proofs.Quiet.{phasers_same}
use Rattle.world_records.proofs.Called.{step_stands}
use Rattle.world_records.proofs.NextOf.{is_next, other_plan, pass_by}

-- whether a task may claim, and may report, as the history says
abbrev pub claim_in : Limits → List WorldEvent → ℕ → ℕ → Bool
claim_in l w t n = is_permitted l (terms_of n w) (phaser_past n w) (Claimed t)

abbrev pub report_in : Limits → List WorldEvent → ℕ → ℕ → Bool
report_in l w t n = is_permitted l (terms_of n w) (phaser_past n w) (Reported t)

pub same_place : (f : ℕ → Bool) (m n : ℕ) (b : Bool) → (m == n) ≡ b → (b && f n) ≡ (b && f m)
same_place f m n true e = ap f (sym (eqb-true m n e))
same_place f m n false e = refl

two_same : (a b c : Bool) → (a && b && c) ≡ (a && (b && c))
two_same true b c = refl
two_same false b c = refl

module _ (l : Limits) (w : List WorldEvent) (t n : ℕ) (k : TaskState) (fs : List ℕ) where
  turning_next : (left : List ℕ) → k.left ≡ left → has_left plan.Turning left ≡ true
      → (is_first left n && not (claim_in l w t n) && not (report_in l w t n)) ≡ is_next l w (due_by t k fs plan.Turning) n (Pass t)
  turning_next [] e h = absurd cc
  turning_next (m ∷ ms) e h =
      rw e (two_same (m == n) _ _
      ∙ (same_place (λ i. not (claim_in l w t i) && not (report_in l w t i)) m n (m == n) refl
      ∙ (sym (two_same (m == n) _ _) ∙ sym (pass_by (claim_in l w t m) (report_in l w t m) m n t (m == n) true refl (eq-eqb t t refl) refl))))

  -- the plan wants the pass where it is the next event of the history
  wanted : (p : Plan) (left : List ℕ) → k.left ≡ left → has_left p left ≡ true
      → (wants_pass p left n && not (claim_in l w t n) && not (report_in l w t n)) ≡ is_next l w (due_by t k fs p) n (Pass t)
  wanted plan.Turning left e h = turning_next left e h
  wanted plan.Idle left e h = sym (other_plan l w n (Pass t) (record { no_drop = λ u. refl; no_reg = λ q c m. refl; no_signal = λ u y. refl }) t k fs plan.Idle left (λ r. absurd cc) e h)
  wanted (plan.Signalling y turn) left e h = sym (other_plan l w n (Pass t) (record { no_drop = λ u. refl; no_reg = λ q c m. refl; no_signal = λ u y. refl }) t k fs (plan.Signalling y turn) left (λ r. absurd cc) e h)
  wanted (plan.Spawning c pairs made) left e h = sym (other_plan l w n (Pass t) (record { no_drop = λ u. refl; no_reg = λ q c m. refl; no_signal = λ u y. refl }) t k fs (plan.Spawning c pairs made) left (λ r. absurd cc) e h)
  wanted plan.Shutting left e h = sym (other_plan l w n (Pass t) (record { no_drop = λ u. refl; no_reg = λ q c m. refl; no_signal = λ u y. refl }) t k fs plan.Shutting left (λ r. absurd cc) e h)
  wanted (plan.Ending c) left e h = sym (other_plan l w n (Pass t) (record { no_drop = λ u. refl; no_reg = λ q c m. refl; no_signal = λ u y. refl }) t k fs (plan.Ending c) left (λ r. absurd cc) e h)

-- the reply to a pass is what the phaser returns
pub pass_returned : (h : List Event) (o : Option Refusal) (waiting room b : Bool) (t : ℕ)
    → reply_by_pass (pass_result h (decided o waiting room (cond b (Claimed t) (Gone t)))) ≡ returned h (decided o waiting room (cond b (Claimed t) (Gone t)))
pass_returned h (Some r) waiting room b t = refl
pass_returned h None true room b t = refl
pass_returned h None false false b t = refl
pass_returned h None false true true t = refl
pass_returned h None false true false t = refl

pub answer_by : (b c : Bool) (u : Result (Passing ℕ) Refusal) (r : Result Reply Refusal) → b ≡ c → reply_by_pass u ≡ r → reply_by_pass (cond b u (Err NotNow)) ≡ cond c r (Err NotNow)
answer_by true true u r e k = k
answer_by true false u r e k = absurd cc
answer_by false true u r e k = absurd cc
answer_by false false u r e k = refl

pub pass_answers : (s : WorldState) (w : List WorldEvent) (n t : ℕ) → StandsFor w s → pass_answer s n t ≡ reply s.limits w (Phaser n (Pass t))
pass_answers s w n t st =
    let k = task_at s t in
    let line = st.tasks t in
    let l = s.limits in
    let story = (st.phasers n).story in
    let asked : pass_asked s n t ≡ (wants_pass k.plan k.left n && not (claim_in l w t n) && not (report_in l w t n)) =
    ap (λ y. wants_pass k.plan k.left n && not (may_claim y t) && not (may_report y t)) story
    in
    let next : pass_asked s n t ≡ is_next l w (due t w) n (Pass t) =
    asked ∙ (wanted l w t n k (open_finishes t w) k.plan k.left refl line.left ∙ ap (λ ds. is_next l w ds n (Pass t)) (sym line.due_is))
    in
    let answer : reply_by_pass (passed_on s n t) ≡ phaser_reply l w n (Pass t) =
    ap (λ (y : Story). reply_by_pass (pass_result y.past (phaser.reply y (pass t)))) story ∙ pass_returned (phaser_past n w) _ _ _ (claim_in l w t n) t
    in
    answer_by (pass_asked s n t) (is_next l w (due t w) n (Pass t)) (passed_on s n t) (phaser_reply l w n (Pass t)) next answer

-- the acting task's line after it
module _ (outers : List (Option ℕ)) (w : List WorldEvent) (n t : ℕ) (k : TaskState) (st : TaskStands outers w t k) where
  own_line : (p : Plan) (left : List ℕ) (c : ℕ)
      → drop 1 (due t w) ≡ due_by t (record k { plan = p; left = left; clock = c }) (open_finishes t w) p
      → is_idle_plan p ≡ is_empty (due_by t (record k { plan = p; left = left; clock = c }) (open_finishes t w) p)
      → fits_plan p (last_entry t w) ≡ true
      → has_left p left ≡ true
      → c ≡ min (clock t (Phaser n (Pass t) ∷ w)) 4294967295
      → TaskStands outers (Phaser n (Pass t) ∷ w) t (record k { plan = p; left = left; clock = c })
  own_line p left c rest idle fits has clock =
      let made : due t (Phaser n (Pass t) ∷ w) ≡ due_by t (record k { plan = p; left = left; clock = c }) (open_finishes t w) p =
      due_own t (Phaser n (Pass t)) w refl (eq-eqb t t refl) refl ∙ rest
      in
      record {
        due_is = made;
        idle = idle ∙ ap (λ ds. is_empty ds) (sym made);
        plan = fits;
        left = has;
        chain = st.chain;
        phasers = st.phasers ∙ sym (phasers_same t n (Pass t) w tt);
        clock = clock;
        acts = st.acts;
        home = st.home;
        spawner = st.spawner;
        named = st.named;
        born = st.born;
        ended = st.ended;
        refused = st.refused;
      }

  clock_by : (one : Bool) → is_one (due t w) ≡ one → clock t (Phaser n (Pass t) ∷ w) ≡ cond one (clock t w + 1) (clock t w)
  clock_by one e = rw (eq-eqb t t refl, e) refl

  pub pass_line : (p : Plan) (left : List ℕ) → k.plan ≡ p → k.left ≡ left → wants_pass p left n ≡ true → TaskStands outers (Phaser n (Pass t) ∷ w) t (note_pass left k)
  pass_line plan.Idle left e l want = absurd cc
  pass_line (plan.Signalling y turn) left e l want = absurd cc
  pass_line (plan.Spawning c pairs made) left e l want = absurd cc
  pass_line plan.Shutting left e l want = absurd cc
  pass_line (plan.Ending c) left e l want = absurd cc
  pass_line plan.Turning [] e l want = absurd cc
  pass_line plan.Turning (m ∷ []) e l want =
      let d : due t w ≡ Phaser m (Pass t) ∷ [] = st.due_is ∙ (ap (λ q. due_by t k (open_finishes t w) q) e ∙ ap (λ ls. map (λ i. Phaser i (Pass t)) ls) l) in
      let c : clock t (Phaser n (Pass t) ∷ w) ≡ clock t w + 1 = clock_by true (ap (λ ds. is_one ds) d) in
      own_line plan.Idle [] (min (k.clock + 1) 4294967295) (ap (λ ds. drop 1 ds) d) refl refl refl (omega (arith, c, st.clock))
  pass_line plan.Turning (m ∷ i ∷ is) e l want =
      let d : due t w ≡ map (λ i. Phaser i (Pass t)) (m ∷ i ∷ is) = st.due_is ∙ (ap (λ q. due_by t k (open_finishes t w) q) e ∙ ap (λ ls. map (λ i. Phaser i (Pass t)) ls) l) in
      let c : clock t (Phaser n (Pass t) ∷ w) ≡ clock t w = clock_by false (ap (λ ds. is_one ds) d) in
      subst (λ q. TaskStands outers (Phaser n (Pass t) ∷ w) t (record k { plan = q; left = i ∷ is })) (sym e)
      (own_line plan.Turning (i ∷ is) k.clock (ap (λ ds. drop 1 ds) d) refl (ap (λ q. fits_plan q (last_entry t w)) (sym e) ∙ st.plan) refl (st.clock ∙ ap (λ v. min v 4294967295) (sym c)))

-- what follows from a pass that is made
pub asked_made : (b : Bool) (u : Result (Passing ℕ) Refusal) → is_made (reply_by_pass (cond b u (Err NotNow))) ≡ true → (b ≡ true) × (is_made (reply_by_pass u) ≡ true)
asked_made true u e = (refl, e)
asked_made false u e = absurd cc

gone : (h : List Event) (o : Option Refusal) (waiting room b : Bool) (t : ℕ) → b ≡ false → is_made (reply_by_pass (pass_result h (decided o waiting room (cond b (Claimed t) (Gone t))))) ≡ true
    → decided o waiting room (cond b (Claimed t) (Gone t)) ≡ done (Gone t)
gone h (Some r) waiting room b t f e = absurd cc
gone h None true room b t f e = absurd cc
gone h None false false b t f e = absurd cc
gone h None false true true t f e = absurd cc
gone h None false true false t f e = refl

pub done_within : (l : Limits) (xs : List Story) (n t : ℕ) (e : Event) → phaser.reply (get_or xs n (blank_story l)) (pass t) ≡ done e → n < length xs
done_within l [] n t e k = absurd cc
done_within l (y ∷ ys) zero t e k = omega arith
done_within l (y ∷ ys) (suc n) t e k = omega (arith, done_within l ys n t e k)

pub wanted_within : (ks : List TaskState) (t n : ℕ) → is_to_pass (get_or ks t blank_task) n ≡ true → t < length ks
wanted_within [] t n e = absurd cc
wanted_within (k ∷ ks) zero n e = omega arith
wanted_within (k ∷ ks) (suc t) n e = omega (arith, wanted_within ks t n e)

pub pass_unchanged : (u : Result (Passing ℕ) Refusal) (s called noted : WorldState) → is_made (reply_by_pass u) ≡ false → state_by_pass u s called noted ≡ s
pass_unchanged (Ok (Passed p)) s called noted e = absurd cc
pass_unchanged (Ok (Claims i)) s called noted e = absurd cc
pass_unchanged (Ok Waits) s called noted e = refl
pass_unchanged (Err r) s called noted e = refl

pub pass_is_step : (s : WorldState) (n t : ℕ) → IsStep (Phaser n (Pass t)) s (pass_state s n t) (pass_answer s n t)
pass_is_step s n t = record {
  unchanged = pass_unchanged (pass_outcome s n t) s (phaser_called s n (pass t)) (with_task (phaser_called s n (pass t)) t (pass_noted (task_at s t)));
  limits = limits_by_pass (pass_outcome s n t) s (phaser_called s n (pass t)) (with_task (phaser_called s n (pass t)) t (pass_noted (task_at s t))) refl refl;
  answer = λ w st. pass_answers s w n t st;
  stands = λ w st made.
      let k = task_at s t in
      let y = story_at s n in
      let asked = asked_made (pass_asked s n t) (passed_on s n t) made in
      let one = and_parts (is_to_pass k n && not (may_claim y t)) (not (may_report y t)) asked.0 in
      let two = and_parts (is_to_pass k n) (not (may_claim y t)) one.0 in
      let replied : phaser.reply y (pass t) ≡ done (Gone t) = gone y.past _ _ _ (may_claim y t) t (not-true (may_claim y t) two.1) asked.1 in
      let accepted : is_made (reply s.limits w (Phaser n (Pass t))) ≡ true = ap (λ r. is_made r) (sym (pass_answers s w n t st)) ∙ made in
      rw (asked.0, replied) (step_stands s w n (Pass t) tt st t (pass_noted k) refl (done_within s.limits s.phasers n t (Gone t) replied) (wanted_within s.tasks t n two.0) accepted
      (pass_line s.outers w n t k (st.tasks t) k.plan k.left refl refl two.0));
}
