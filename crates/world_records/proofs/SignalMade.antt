-- A signal of an act under way: the answer is the history's, and the world stands for what follows.
use Rattle.std.proofs.Common.{◌≡◌, ℕ, zero, suc, ◌<◌, arith, ◌==◌, Bool, true, false, ◌&&◌, cond, List, [], ◌∷◌, ◌++◌, map, drop, Option, Some, None, length, get_or, Result, Ok, Err, refl, sym, ap, subst, ◌∙◌}
use Rattle.std.specs.Prelude.{slice_get, option_map}
use Rattle.std.specs.Option.{option_map_or}
use Rattle.std.proofs.lemmas.Bool.{eq-eqb}
use Rattle.phase_modes.specs.declared.limits.Limits.{Limits}
use Rattle.phase_modes.specs.declared.phased.Pair.{Pair}
use Rattle.phase_modes.specs.Lists.{is_empty}
use Rattle.phase_modes.specs.declared.refusal.Refusal.{Refusal}
use Rattle.phase_modes.specs.declared.refusal.Refusal.TheVariants.{NotNow}
use Rattle.phase_model.specs.declared.history.Event.{Event}
use Rattle.phase_model.specs.declared.history.Event.TheVariants.{Sig as Signed}
use Rattle.phase_model.specs.Replies as phaser
use Rattle.phase_model.specs.Replies.{decided, done}
use Rattle.phase_model.specs.declared.call.Call.TheVariants.{Signal as signal}
use Rattle.finish_core.specs.declared.event.FinishEvent.TheVariants.{Spawned, Ended, Shut as Shutting}
use Rattle.world_model.specs.declared.reply.Reply.{Reply}
use Rattle.world_model.specs.declared.event.Step.TheVariants.{Reg, Sig, Claim, Did, Pass, Drop}
use Rattle.world_model.specs.declared.event.WorldEvent.{WorldEvent}
use Rattle.world_model.specs.declared.event.WorldEvent.TheVariants.{Phaser, Finish, Begin, Refuse, Fail}
use Rattle.world_model.specs.declared.event.Begun.TheVariants.{Async, Signal, Wait, Next, NextSingle, Shut, End}
use Rattle.world_model.specs.TaskConditions.{last_entry}
use Rattle.world_model.proofs.OthersLeave.{due_own}
use Rattle.world_records.proofs.Quiet.{phasers_same}
use Rattle.world_records.proofs.Called.{step_stands}
use Rattle.phase_model.specs.Rules.{Story}
use Rattle.world_records.specs.declared.plan.Plan.{Plan}
use Rattle.world_records.specs.declared.plan.Plan.TheVariants as plan
use Rattle.world_records.specs.TaskState.{TaskState}
use Rattle.world_records.specs.WorldState.{WorldState}
use Rattle.world_records.specs.Kept.{blank_task, blank_story, task_at, story_at, is_idle_plan}
use Rattle.world_records.specs.StandsFor.{StandsFor, TaskStands, due_by, inner_of, end_of, IsStep}
use Rattle.world_records.specs.Plans.{fits_plan, has_left}
use Rattle.world_model.specs.Parts.{phaser_past}
use Rattle.world_model.specs.Scopes.{open_finishes}
use Rattle.world_model.specs.Due.{due, or_single}
use Rattle.world_model.specs.Continuing.{same_event, same_number}
use Rattle.world_model.specs.PartReplies.{returned, phaser_reply}
use Rattle.world_model.specs.Replies.{reply, is_made}
use Rattle.phase_model.specs.declared.answer.Signalling.{Signalling}
use Rattle.phase_model.specs.declared.answer.Signalling.TheVariants.{Signalled, NotYet as Holds}
use Rattle.phase_model.specs.Answers.{signal_result}
use Rattle.world_records.specs.inner.Steps.{wants_signal, is_to_signal, signalled_on, reply_by_signal, signal_answer, signal_state, signal_outcome, state_by_signal, signal_noted, phaser_called, with_task, after_signals_on, note_signal}

never : (a : Bool) → (a && false) ≡ false
never true = refl
never false = refl

-- what comes where a pass is due is no signal
no_signal_by : (b c : Bool) (m u n t : ℕ) (x : Option ℕ) → same_event (cond b (Phaser m (Claim u)) (cond c (Phaser m (Did u)) (Phaser m (Pass u)))) (Phaser n (Sig t x)) ≡ false
no_signal_by true c m u n t x = never (m == n)
no_signal_by false true m u n t x = never (m == n)
no_signal_by false false m u n t x = never (m == n)

-- the first event due, as a signal
abbrev pub is_next_signal : Limits → List WorldEvent → List WorldEvent → ℕ → ℕ → Option ℕ → Bool
is_next_signal l w ds n t x = option_map_or (λ d. same_event d (Phaser n (Sig t x))) (option_map (or_single l w) (slice_get ds 0)) false

passes_are_none : (l : Limits) (w : List WorldEvent) (t u n : ℕ) (x : Option ℕ) (ns : List ℕ) → is_next_signal l w (map (λ m. Phaser m (Pass u)) ns) n t x ≡ false
passes_are_none l w t u n x [] = refl
passes_are_none l w t u n x (m ∷ ns) = no_signal_by _ _ m u n t x

drops_are_none : (l : Limits) (w rest : List WorldEvent) (t u n : ℕ) (x : Option ℕ) (ns : List ℕ) → is_next_signal l w rest n t x ≡ false → is_next_signal l w (map (λ m. Phaser m (Drop u)) ns ++ rest) n t x ≡ false
drops_are_none l w rest t u n x [] e = e
drops_are_none l w rest t u n x (m ∷ ns) e = never (m == n)

regs_are_none : (l : Limits) (w rest : List WorldEvent) (t u c n : ℕ) (x : Option ℕ) (ps : List Pair) → is_next_signal l w rest n t x ≡ false → is_next_signal l w (map (λ p. Phaser p.phaser (Reg u c p.mode)) ps ++ rest) n t x ≡ false
regs_are_none l w rest t u c n x [] e = e
regs_are_none l w rest t u c n x (p ∷ ps) e = never (p.phaser == n)

shuts_are_none : (l : Limits) (w : List WorldEvent) (t u n : ℕ) (x : Option ℕ) (k : TaskState) (fs : List ℕ) → is_next_signal l w (map (λ f. Finish f Shutting) fs ++ end_of u k ∷ []) n t x ≡ false
shuts_are_none l w t u n x k [] = elim (u == 0) as (λ b. is_next_signal l w (cond b (Finish 0 Shutting) (Finish k.home (Ended u)) ∷ []) n t x ≡ false) [ true ↦ refl | false ↦ refl ]
shuts_are_none l w t u n x k (f ∷ fs) = refl

own_signal : (n m t : ℕ) (y x : Option ℕ) → (m == n && (t == t && same_number y x)) ≡ (m == n && same_number y x)
own_signal n m t y x = rw (eq-eqb t t refl) refl

-- the plan wants the signal where it is the next event of the history
pub wanted_is_next : (l : Limits) (w : List WorldEvent) (t : ℕ) (k : TaskState) (fs : List ℕ) (n : ℕ) (x : Option ℕ) (p : Plan) (left : List ℕ) → k.left ≡ left
    → wants_signal p left n x ≡ is_next_signal l w (due_by t k fs p) n t x
wanted_is_next l w t k fs n x plan.Idle left e = refl
wanted_is_next l w t k fs n x (plan.Signalling y true) [] e = rw e (sym (passes_are_none l w t t n x k.phasers))
wanted_is_next l w t k fs n x (plan.Signalling y false) [] e = rw e refl
wanted_is_next l w t k fs n x (plan.Signalling y turn) (m ∷ ms) e = rw e (sym (own_signal n m t y x))
wanted_is_next l w t k fs n x plan.Turning left e = sym (passes_are_none l w t t n x k.left)
wanted_is_next l w t k fs n x (plan.Spawning c pairs made) left e = sym (regs_are_none l w (Finish (inner_of k fs) (Spawned c) ∷ []) t t c n x (drop made pairs) refl)
wanted_is_next l w t k fs n x plan.Shutting left e = sym (drops_are_none l w (Finish (inner_of k fs) Shutting ∷ []) t t n x k.left refl)
wanted_is_next l w t k fs n x (plan.Ending c) left e =
    sym (drops_are_none l w (map (λ m. Phaser m (Drop t)) k.phasers ++ (map (λ f. Finish f Shutting) fs ++ end_of t k ∷ [])) t c n x k.left
    (drops_are_none l w (map (λ f. Finish f Shutting) fs ++ end_of t k ∷ []) t t n x k.phasers (shuts_are_none l w t t n x k fs)))

-- the reply to a signal is what the phaser returns
signal_returned : (h : List Event) (o : Option Refusal) (waiting room : Bool) (t : ℕ) (x : Option ℕ) → reply_by_signal (signal_result (decided o waiting room (Signed t x))) ≡ returned h (decided o waiting room (Signed t x))
signal_returned h (Some r) waiting room t x = refl
signal_returned h None true room t x = refl
signal_returned h None false true t x = refl
signal_returned h None false false t x = refl

answer_by : (b c : Bool) (r s : Result Reply Refusal) (u : Result Signalling Refusal) → b ≡ c → reply_by_signal u ≡ r → reply_by_signal (cond b u (Err NotNow)) ≡ cond c r (Err NotNow)
answer_by true true r s u e k = k
answer_by true false r s u e k = absurd cc
answer_by false true r s u e k = absurd cc
answer_by false false r s u e k = refl

pub signal_answers : (s : WorldState) (w : List WorldEvent) (n t : ℕ) (x : Option ℕ) → StandsFor w s → signal_answer s n t x ≡ reply s.limits w (Phaser n (Sig t x))
signal_answers s w n t x st =
    let k = task_at s t in
    let line = st.tasks t in
    let wanted : is_to_signal k n x ≡ is_next_signal s.limits w (due t w) n t x =
    wanted_is_next s.limits w t k (open_finishes t w) n x k.plan k.left refl ∙ ap (λ ds. is_next_signal s.limits w ds n t x) (sym line.due_is)
    in
    let story : reply_by_signal (signalled_on s n t x) ≡ phaser_reply s.limits w n (Sig t x) =
    ap (λ y. reply_by_signal (signal_result (phaser.reply y (signal t x)))) (st.phasers n).story ∙ signal_returned (phaser_past n w) _ _ _ t x
    in
    answer_by (is_to_signal k n x) (is_next_signal s.limits w (due t w) n t x) (phaser_reply s.limits w n (Sig t x)) (Err NotNow) (signalled_on s n t x) wanted story

turn_goes_on : (y : Option ℕ) (e : Option WorldEvent) → fits_plan (plan.Signalling y true) e ≡ true → fits_plan plan.Turning e ≡ true
turn_goes_on y (Some (Begin u (NextSingle i))) f = refl
turn_goes_on y (Some (Begin u Next)) f = refl
turn_goes_on y (Some (Begin u Wait)) f = absurd cc
turn_goes_on y (Some (Begin u Signal)) f = absurd cc
turn_goes_on y (Some (Begin u (Async c ps))) f = absurd cc
turn_goes_on y (Some (Begin u Shut)) f = absurd cc
turn_goes_on y (Some (Begin u End)) f = absurd cc
turn_goes_on y (Some (Phaser m z)) f = absurd cc
turn_goes_on y (Some (Finish m z)) f = absurd cc
turn_goes_on y (Some (Refuse u a i)) f = absurd cc
turn_goes_on y (Some (Fail u i)) f = absurd cc
turn_goes_on y None f = absurd cc

-- the acting task's line, but for what a signal changes
module _ (outers : List (Option ℕ)) (w : List WorldEvent) (n t : ℕ) (x : Option ℕ) (k : TaskState) (st : TaskStands outers w t k) where
  own_line : (p : Plan) (left : List ℕ)
      → drop 1 (due t w) ≡ due_by t (record k { plan = p; left = left }) (open_finishes t w) p
      → is_idle_plan p ≡ is_empty (due_by t (record k { plan = p; left = left }) (open_finishes t w) p)
      → fits_plan p (last_entry t w) ≡ true
      → has_left p left ≡ true
      → TaskStands outers (Phaser n (Sig t x) ∷ w) t (record k { plan = p; left = left })
  own_line p left rest idle fits has =
      let made : due t (Phaser n (Sig t x) ∷ w) ≡ due_by t (record k { plan = p; left = left }) (open_finishes t w) p =
      due_own t (Phaser n (Sig t x)) w refl (eq-eqb t t refl) refl ∙ rest
      in
      record {
        due_is = made;
        idle = idle ∙ ap (λ ds. is_empty ds) (sym made);
        plan = fits;
        left = has;
        chain = st.chain;
        phasers = st.phasers ∙ sym (phasers_same t n (Sig t x) w tt);
        clock = st.clock;
        acts = st.acts;
        home = st.home;
        spawner = st.spawner;
        named = st.named;
        born = st.born;
        ended = st.ended;
        refused = st.refused;
      }

  -- once all is signalled, the turn comes to its passes
  pub all_signalled : (y : Option ℕ) (m : ℕ) (turn : Bool) (ns : List ℕ) → k.phasers ≡ ns → due t w ≡ map (λ i. Phaser i (Sig t y)) (m ∷ []) ++ cond turn (map (λ i. Phaser i (Pass t)) ns) []
      → fits_plan (plan.Signalling y turn) (last_entry t w) ≡ true → TaskStands outers (Phaser n (Sig t x) ∷ w) t (after_signals_on turn ns k)
  all_signalled y m true (i ∷ is) e d f = own_line plan.Turning (i ∷ is) (ap (λ ds. drop 1 ds) d) refl (turn_goes_on y (last_entry t w) f) refl
  all_signalled y m true [] e d f = own_line plan.Idle [] (ap (λ ds. drop 1 ds) d) refl refl refl
  all_signalled y m false ns e d f = own_line plan.Idle [] (ap (λ ds. drop 1 ds) d) refl refl refl

  pub signal_line : (p : Plan) (left : List ℕ) → k.plan ≡ p → k.left ≡ left → wants_signal p left n x ≡ true → TaskStands outers (Phaser n (Sig t x) ∷ w) t (note_signal p left k)
  signal_line plan.Idle left e l want = absurd cc
  signal_line plan.Turning left e l want = absurd cc
  signal_line (plan.Spawning c pairs made) left e l want = absurd cc
  signal_line plan.Shutting left e l want = absurd cc
  signal_line (plan.Ending c) left e l want = absurd cc
  signal_line (plan.Signalling y turn) [] e l want = absurd cc
  signal_line (plan.Signalling y turn) (m ∷ []) e l want =
      let d : due t w ≡ map (λ i. Phaser i (Sig t y)) (m ∷ []) ++ cond turn (map (λ i. Phaser i (Pass t)) k.phasers) [] =
      st.due_is ∙ (ap (λ q. due_by t k (open_finishes t w) q) e ∙ ap (λ ls. map (λ i. Phaser i (Sig t y)) ls ++ cond turn (map (λ i. Phaser i (Pass t)) k.phasers) []) l)
      in
      all_signalled y m turn k.phasers refl d (ap (λ q. fits_plan q (last_entry t w)) (sym e) ∙ st.plan)
  signal_line (plan.Signalling y turn) (m ∷ i ∷ is) e l want =
      let d : due t w ≡ map (λ i. Phaser i (Sig t y)) (m ∷ i ∷ is) ++ cond turn (map (λ i. Phaser i (Pass t)) k.phasers) [] =
      st.due_is ∙ (ap (λ q. due_by t k (open_finishes t w) q) e ∙ ap (λ ls. map (λ i. Phaser i (Sig t y)) ls ++ cond turn (map (λ i. Phaser i (Pass t)) k.phasers) []) l)
      in
      subst (λ q. TaskStands outers (Phaser n (Sig t x) ∷ w) t (record k { plan = q; left = i ∷ is })) (sym e)
      (own_line (plan.Signalling y turn) (i ∷ is) (ap (λ ds. drop 1 ds) d) refl (ap (λ q. fits_plan q (last_entry t w)) (sym e) ∙ st.plan) refl)

-- what follows from a signal that is made
made_ok : (u : Result Signalling Refusal) → is_made (reply_by_signal u) ≡ true → u ≡ Ok Signalled
made_ok (Ok Signalled) e = refl
made_ok (Ok Holds) e = absurd cc
made_ok (Err r) e = absurd cc

both_parts : (b : Bool) (u : Result Signalling Refusal) → cond b u (Err NotNow) ≡ Ok Signalled → (b ≡ true) × (u ≡ Ok Signalled)
both_parts true u e = (refl, e)
both_parts false u e = absurd cc

done_by_settled : (o : Option Refusal) (waiting room : Bool) (e : Event) → signal_result (decided o waiting room e) ≡ Ok Signalled → decided o waiting room e ≡ done e
done_by_settled (Some r) waiting room e k = absurd cc
done_by_settled None true room e k = absurd cc
done_by_settled None false true e k = refl
done_by_settled None false false e k = absurd cc

done_within : (l : Limits) (xs : List Story) (n t : ℕ) (x : Option ℕ) → signal_result (phaser.reply (get_or xs n (blank_story l)) (signal t x)) ≡ Ok Signalled → n < length xs
done_within l [] n t x e = absurd cc
done_within l (y ∷ ys) zero t x e = omega arith
done_within l (y ∷ ys) (suc n) t x e = omega (arith, done_within l ys n t x e)

wanted_within : (ks : List TaskState) (t n : ℕ) (x : Option ℕ) → is_to_signal (get_or ks t blank_task) n x ≡ true → t < length ks
wanted_within [] t n x e = absurd cc
wanted_within (k ∷ ks) zero n x e = omega arith
wanted_within (k ∷ ks) (suc t) n x e = omega (arith, wanted_within ks t n x e)

signal_unchanged : (u : Result Signalling Refusal) (s new : WorldState) → is_made (reply_by_signal u) ≡ false → state_by_signal u s new ≡ s
signal_unchanged (Ok Signalled) s new e = absurd cc
signal_unchanged (Ok Holds) s new e = refl
signal_unchanged (Err r) s new e = refl

signal_limits : (u : Result Signalling Refusal) (s new : WorldState) → new.limits ≡ s.limits → (state_by_signal u s new).limits ≡ s.limits
signal_limits (Ok Signalled) s new e = e
signal_limits (Ok Holds) s new e = refl
signal_limits (Err r) s new e = refl

pub signal_is_step : (s : WorldState) (n t : ℕ) (x : Option ℕ) → IsStep (Phaser n (Sig t x)) s (signal_state s n t x) (signal_answer s n t x)
signal_is_step s n t x = record {
  unchanged = signal_unchanged (signal_outcome s n t x) s (with_task (phaser_called s n (signal t x)) t (signal_noted (task_at s t)));
  limits = signal_limits (signal_outcome s n t x) s (with_task (phaser_called s n (signal t x)) t (signal_noted (task_at s t))) refl;
  answer = λ w st. signal_answers s w n t x st;
  stands = λ w st made.
      let ok : signal_outcome s n t x ≡ Ok Signalled = made_ok (signal_outcome s n t x) made in
      let parts = both_parts (is_to_signal (task_at s t) n x) (signalled_on s n t x) ok in
      let replied : phaser.reply (story_at s n) (signal t x) ≡ done (Signed t x) = done_by_settled _ _ _ (Signed t x) parts.1 in
      let accepted : is_made (reply s.limits w (Phaser n (Sig t x))) ≡ true = ap (λ r. is_made r) (sym (signal_answers s w n t x st)) ∙ made in
      let k = task_at s t in
      rw (ok, replied) (step_stands s w n (Sig t x) tt st t (signal_noted k) refl (done_within s.limits s.phasers n t x parts.1) (wanted_within s.tasks t n x parts.0) accepted
      (signal_line s.outers w n t x k (st.tasks t) k.plan k.left refl refl parts.0));
}
