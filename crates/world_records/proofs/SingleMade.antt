-- A claim and a report in a turn under way: the answers are the history's, and the world stands for what follows.
use Rattle.std.proofs.Common.{◌≡◌, ℕ, zero, suc, ◌<◌, ◌==◌, Bool, true, false, ◌&&◌, not, cond, List, [], ◌∷◌, drop, Option, Some, None, length, get_or, set, Result, Ok, Err, refl, sym, ap, subst, ◌∙◌, arith}
use Rattle.std.proofs.lemmas.Bool.{eq-eqb, and_parts}
use Rattle.std.proofs.lemmas.List.{set-get_or}
use Rattle.phase_modes.specs.Lists.{is_empty}
use Rattle.phase_modes.specs.declared.limits.Limits.{Limits}
use Rattle.phase_modes.specs.declared.refusal.Refusal.{Refusal}
use Rattle.phase_modes.specs.declared.refusal.Refusal.TheVariants.{NotNow}
use Rattle.phase_model.specs.declared.history.Event.{Event}
use Rattle.phase_model.specs.declared.history.Event.TheVariants.{Claim as Claimed, Did as Reported, Pass as Gone}
use Rattle.phase_model.specs.Rules.{Story, with_event}
use Rattle.phase_model.specs.Replies as phaser
use Rattle.phase_model.specs.Replies.{decided, done, done_result}
use Rattle.phase_model.specs.declared.call.Call.TheVariants.{Pass as pass, SingleDone as single_done}
use Rattle.phase_model.specs.Answers.{pass_result}
use Rattle.world_model.specs.declared.event.Step.TheVariants.{Claim, Did}
use Rattle.world_model.specs.declared.event.WorldEvent.{WorldEvent}
use Rattle.world_model.specs.declared.event.WorldEvent.TheVariants.{Phaser}
use Rattle.world_records.specs.declared.plan.Plan.{Plan}
use Rattle.world_records.specs.declared.plan.Plan.TheVariants as plan
use Rattle.world_model.specs.declared.reply.Reply.{Reply}
use Rattle.world_records.specs.TaskState.{TaskState}
use Rattle.world_records.specs.WorldState.{WorldState}
use Rattle.world_records.specs.Kept.{blank_task, blank_story, task_at, story_at}
use Rattle.world_model.specs.Parts.{phaser_past}
use Rattle.world_model.specs.Scopes.{open_finishes}
use Rattle.world_model.specs.Due.{due}
use Rattle.world_model.specs.PartReplies.{returned, phaser_reply}
use Rattle.world_model.specs.Replies.{reply, is_made}
use Rattle.world_records.specs.inner.Steps.{is_first, wants_pass, is_to_pass, may_claim, may_report, claim_asked, report_asked, passed_on, reply_by_pass, claim_outcome, claim_answer, claim_state, report_result, report_answer, report_state, done_by, state_by, phaser_called, with_task}
use Rattle.world_records.proofs.LimitsStay.{limits_by_pass, limits_by}
use Rattle.world_records.specs.StandsFor.{TaskStands, StandsFor, IsStep, due_by}
use Rattle.world_records.specs.Plans.{has_left}
use Rattle.world_records.proofs.Quiet.{phasers_same}
use Rattle.world_records.proofs.Called.{step_stands}
use Rattle.world_records.proofs.NextOf.{is_next, IsOfTurn, other_plan, claim_by, report_by}
use Rattle.world_records.proofs.PassMade.{claim_in, report_in, same_place, pass_returned, answer_by, asked_made, done_within, wanted_within, pass_unchanged}

-- a claim and a report are of a turn
of_claim : (t : ℕ) → IsOfTurn (Claim t)
of_claim t = record { no_drop = λ u. refl; no_reg = λ q c m. refl; no_signal = λ u y. refl }

of_report : (t : ℕ) → IsOfTurn (Did t)
of_report t = record { no_drop = λ u. refl; no_reg = λ q c m. refl; no_signal = λ u y. refl }

two_same : (a b c : Bool) → (a && b && c) ≡ (a && (b && c))
two_same true b c = refl
two_same false b c = refl

module _ (l : Limits) (w : List WorldEvent) (t n : ℕ) (k : TaskState) (fs : List ℕ) where
  claim_next : (left : List ℕ) → k.left ≡ left → has_left plan.Turning left ≡ true → (is_first left n && claim_in l w t n) ≡ is_next l w (due_by t k fs plan.Turning) n (Claim t)
  claim_next [] e h = absurd cc
  claim_next (m ∷ ms) e h =
      rw e (same_place (λ i. claim_in l w t i) m n (m == n) refl ∙ sym (claim_by (claim_in l w t m) (report_in l w t m) m n t (m == n) true refl (eq-eqb t t refl) refl))

  report_next : (left : List ℕ) → k.left ≡ left → has_left plan.Turning left ≡ true
      → (is_first left n && not (claim_in l w t n) && report_in l w t n) ≡ is_next l w (due_by t k fs plan.Turning) n (Did t)
  report_next [] e h = absurd cc
  report_next (m ∷ ms) e h =
      rw e (two_same (m == n) _ _
      ∙ (same_place (λ i. not (claim_in l w t i) && report_in l w t i) m n (m == n) refl
      ∙ (sym (two_same (m == n) _ _) ∙ sym (report_by (claim_in l w t m) (report_in l w t m) m n t (m == n) true refl (eq-eqb t t refl) refl))))

  claim_wanted : (p : Plan) (left : List ℕ) → k.left ≡ left → has_left p left ≡ true → (wants_pass p left n && claim_in l w t n) ≡ is_next l w (due_by t k fs p) n (Claim t)
  claim_wanted plan.Turning left e h = claim_next left e h
  claim_wanted plan.Idle left e h = sym (other_plan l w n (Claim t) (of_claim t) t k fs plan.Idle left (λ r. absurd cc) e h)
  claim_wanted (plan.Signalling y turn) left e h = sym (other_plan l w n (Claim t) (of_claim t) t k fs (plan.Signalling y turn) left (λ r. absurd cc) e h)
  claim_wanted (plan.Spawning c pairs made) left e h = sym (other_plan l w n (Claim t) (of_claim t) t k fs (plan.Spawning c pairs made) left (λ r. absurd cc) e h)
  claim_wanted plan.Shutting left e h = sym (other_plan l w n (Claim t) (of_claim t) t k fs plan.Shutting left (λ r. absurd cc) e h)
  claim_wanted (plan.Ending c) left e h = sym (other_plan l w n (Claim t) (of_claim t) t k fs (plan.Ending c) left (λ r. absurd cc) e h)

  report_wanted : (p : Plan) (left : List ℕ) → k.left ≡ left → has_left p left ≡ true
      → (wants_pass p left n && not (claim_in l w t n) && report_in l w t n) ≡ is_next l w (due_by t k fs p) n (Did t)
  report_wanted plan.Turning left e h = report_next left e h
  report_wanted plan.Idle left e h = sym (other_plan l w n (Did t) (of_report t) t k fs plan.Idle left (λ r. absurd cc) e h)
  report_wanted (plan.Signalling y turn) left e h = sym (other_plan l w n (Did t) (of_report t) t k fs (plan.Signalling y turn) left (λ r. absurd cc) e h)
  report_wanted (plan.Spawning c pairs made) left e h = sym (other_plan l w n (Did t) (of_report t) t k fs (plan.Spawning c pairs made) left (λ r. absurd cc) e h)
  report_wanted plan.Shutting left e h = sym (other_plan l w n (Did t) (of_report t) t k fs plan.Shutting left (λ r. absurd cc) e h)
  report_wanted (plan.Ending c) left e h = sym (other_plan l w n (Did t) (of_report t) t k fs (plan.Ending c) left (λ r. absurd cc) e h)

pub claim_answers : (s : WorldState) (w : List WorldEvent) (n t : ℕ) → StandsFor w s → claim_answer s n t ≡ reply s.limits w (Phaser n (Claim t))
claim_answers s w n t st =
    let k = task_at s t in
    let line = st.tasks t in
    let l = s.limits in
    let story = (st.phasers n).story in
    let next : claim_asked s n t ≡ is_next l w (due t w) n (Claim t) =
    ap (λ y. wants_pass k.plan k.left n && may_claim y t) story
    ∙ (claim_wanted l w t n k (open_finishes t w) k.plan k.left refl line.left ∙ ap (λ ds. is_next l w ds n (Claim t)) (sym line.due_is))
    in
    let answer : reply_by_pass (passed_on s n t) ≡ phaser_reply l w n (Claim t) =
    ap (λ (y : Story). reply_by_pass (pass_result y.past (phaser.reply y (pass t)))) story ∙ pass_returned (phaser_past n w) _ _ _ (claim_in l w t n) t
    in
    answer_by (claim_asked s n t) (is_next l w (due t w) n (Claim t)) (passed_on s n t) (phaser_reply l w n (Claim t)) next answer

-- the reply to a report is what the phaser returns
report_returned : (h : List Event) (o : Option Refusal) (room : Bool) (t : ℕ) → done_by (done_result (decided o false room (Reported t))) ≡ returned h (decided o false room (Reported t))
report_returned h (Some r) room t = refl
report_returned h None true t = refl
report_returned h None false t = refl

done_answer_by : (b c : Bool) (u : Result (Unit {0}) Refusal) (r : Result Reply Refusal) → b ≡ c → done_by u ≡ r → done_by (cond b u (Err NotNow)) ≡ cond c r (Err NotNow)
done_answer_by true true u r e k = k
done_answer_by true false u r e k = absurd cc
done_answer_by false true u r e k = absurd cc
done_answer_by false false u r e k = refl

pub report_answers : (s : WorldState) (w : List WorldEvent) (n t : ℕ) → StandsFor w s → report_answer s n t ≡ reply s.limits w (Phaser n (Did t))
report_answers s w n t st =
    let k = task_at s t in
    let line = st.tasks t in
    let l = s.limits in
    let story = (st.phasers n).story in
    let next : report_asked s n t ≡ is_next l w (due t w) n (Did t) =
    ap (λ y. wants_pass k.plan k.left n && not (may_claim y t) && may_report y t) story
    ∙ (report_wanted l w t n k (open_finishes t w) k.plan k.left refl line.left ∙ ap (λ ds. is_next l w ds n (Did t)) (sym line.due_is))
    in
    let answer : done_by (done_result (phaser.reply (story_at s n) (single_done t))) ≡ phaser_reply l w n (Did t) =
    ap (λ (y : Story). done_by (done_result (phaser.reply y (single_done t)))) story ∙ report_returned (phaser_past n w) _ _ t
    in
    done_answer_by (report_asked s n t) (is_next l w (due t w) n (Did t)) (done_result (phaser.reply (story_at s n) (single_done t))) (phaser_reply l w n (Did t)) next answer

-- a claim and a report leave the acting task's line as it was
same_due : (a b : Bool) (ds : List WorldEvent) → b ≡ true → cond (a && not b) (drop 1 ds) ds ≡ ds
same_due true true ds e = refl
same_due true false ds e = absurd cc
same_due false b ds e = refl

claim_line : (outers : List (Option ℕ)) (w : List WorldEvent) (n t : ℕ) (k : TaskState) → TaskStands outers w t k → TaskStands outers (Phaser n (Claim t) ∷ w) t k
claim_line outers w n t k st =
    let same : due t (Phaser n (Claim t) ∷ w) ≡ due t w = same_due (t == t) true (due t w) refl in
    record {
      due_is = same ∙ st.due_is;
      idle = st.idle ∙ ap (λ ds. is_empty ds) (sym same);
      plan = st.plan;
      left = st.left;
      chain = st.chain;
      phasers = st.phasers ∙ sym (phasers_same t n (Claim t) w tt);
      clock = st.clock;
      acts = st.acts;
      home = st.home;
      spawner = st.spawner;
      named = st.named;
      born = st.born;
      ended = st.ended;
      refused = st.refused;
    }

report_line : (outers : List (Option ℕ)) (w : List WorldEvent) (n t : ℕ) (k : TaskState) → TaskStands outers w t k → TaskStands outers (Phaser n (Did t) ∷ w) t k
report_line outers w n t k st =
    let same : due t (Phaser n (Did t) ∷ w) ≡ due t w = same_due (t == t) true (due t w) refl in
    record {
      due_is = same ∙ st.due_is;
      idle = st.idle ∙ ap (λ ds. is_empty ds) (sym same);
      plan = st.plan;
      left = st.left;
      chain = st.chain;
      phasers = st.phasers ∙ sym (phasers_same t n (Did t) w tt);
      clock = st.clock;
      acts = st.acts;
      home = st.home;
      spawner = st.spawner;
      named = st.named;
      born = st.born;
      ended = st.ended;
      refused = st.refused;
    }

-- a pass where the task may claim is the claim
claims : (h : List Event) (o : Option Refusal) (waiting room b : Bool) (t : ℕ) → b ≡ true → is_made (reply_by_pass (pass_result h (decided o waiting room (cond b (Claimed t) (Gone t))))) ≡ true
    → decided o waiting room (cond b (Claimed t) (Gone t)) ≡ done (Claimed t)
claims h (Some r) waiting room b t f e = absurd cc
claims h None true room b t f e = absurd cc
claims h None false false b t f e = absurd cc
claims h None false true true t f e = refl
claims h None false true false t f e = absurd cc

-- writing a line as it was changes nothing
line_kept : (s : WorldState) (t : ℕ) → with_task s t (task_at s t) ≡ s
line_kept s t = ap (λ ks. record s { tasks = ks }) (set-get_or s.tasks t blank_task)

abbrev phaser_called_by : WorldState → ℕ → Event → WorldState
phaser_called_by s n e = record s { phasers = set s.phasers n (with_event (story_at s n) e) }

pub claim_is_step : (s : WorldState) (n t : ℕ) → IsStep (Phaser n (Claim t)) s (claim_state s n t) (claim_answer s n t)
claim_is_step s n t = record {
  unchanged = pass_unchanged (claim_outcome s n t) s (phaser_called s n (pass t)) (phaser_called s n (pass t));
  limits = limits_by_pass (claim_outcome s n t) s (phaser_called s n (pass t)) (phaser_called s n (pass t)) refl refl;
  answer = λ w st. claim_answers s w n t st;
  stands = λ w st made.
      let k = task_at s t in
      let y = story_at s n in
      let asked = asked_made (claim_asked s n t) (passed_on s n t) made in
      let two = and_parts (is_to_pass k n) (may_claim y t) asked.0 in
      let replied : phaser.reply y (pass t) ≡ done (Claimed t) = claims y.past _ _ _ (may_claim y t) t two.1 asked.1 in
      let accepted : is_made (reply s.limits w (Phaser n (Claim t))) ≡ true = ap (λ r. is_made r) (sym (claim_answers s w n t st)) ∙ made in
      rw (asked.0, replied) (subst (λ z. StandsFor (Phaser n (Claim t) ∷ w) z) (line_kept (phaser_called_by s n (Claimed t)) t)
      (step_stands s w n (Claim t) tt st t k refl (done_within s.limits s.phasers n t (Claimed t) replied) (wanted_within s.tasks t n two.0) accepted (claim_line s.outers w n t k (st.tasks t))));
}

made_ok : (b : Bool) (u : Result (Unit {0}) Refusal) → is_made (done_by (cond b u (Err NotNow))) ≡ true → (b ≡ true) × (u ≡ Ok tt)
made_ok true (Ok u) e = (refl, refl)
made_ok true (Err r) e = absurd cc
made_ok false u e = absurd cc

reports : (o : Option Refusal) (room : Bool) (t : ℕ) → done_result (decided o false room (Reported t)) ≡ Ok tt → decided o false room (Reported t) ≡ done (Reported t)
reports (Some r) room t e = absurd cc
reports None true t e = refl
reports None false t e = absurd cc

report_within : (l : Limits) (xs : List Story) (n t : ℕ) (e : Event) → phaser.reply (get_or xs n (blank_story l)) (single_done t) ≡ done e → n < length xs
report_within l [] n t e k = absurd cc
report_within l (y ∷ ys) zero t e k = omega arith
report_within l (y ∷ ys) (suc n) t e k = omega (arith, report_within l ys n t e k)

report_unchanged : (u : Result (Unit {0}) Refusal) (s new : WorldState) → is_made (done_by u) ≡ false → state_by u s new ≡ s
report_unchanged (Ok u) s new e = absurd cc
report_unchanged (Err r) s new e = refl

pub report_is_step : (s : WorldState) (n t : ℕ) → IsStep (Phaser n (Did t)) s (report_state s n t) (report_answer s n t)
report_is_step s n t = record {
  unchanged = report_unchanged (report_result s n t) s (phaser_called s n (single_done t));
  limits = limits_by (report_result s n t) s (phaser_called s n (single_done t)) refl;
  answer = λ w st. report_answers s w n t st;
  stands = λ w st made.
      let k = task_at s t in
      let y = story_at s n in
      let asked = made_ok (report_asked s n t) (done_result (phaser.reply y (single_done t))) made in
      let one = and_parts (is_to_pass k n && not (may_claim y t)) (may_report y t) asked.0 in
      let two = and_parts (is_to_pass k n) (not (may_claim y t)) one.0 in
      let replied : phaser.reply y (single_done t) ≡ done (Reported t) = reports _ _ t asked.1 in
      let accepted : is_made (reply s.limits w (Phaser n (Did t))) ≡ true = ap (λ r. is_made r) (sym (report_answers s w n t st)) ∙ made in
      rw (asked.0, replied) (subst (λ z. StandsFor (Phaser n (Did t) ∷ w) z) (line_kept (phaser_called_by s n (Reported t)) t)
      (step_stands s w n (Did t) tt st t k refl (report_within s.limits s.phasers n t (Reported t) replied) (wanted_within s.tasks t n two.0) accepted (report_line s.outers w n t k (st.tasks t))));
}
