-- The end of a task: the answer is the history's, and the world stands for what follows.
use Rattle.std.proofs.Common.{◌≡◌, ℕ, ◌<◌, ◌==◌, Bool, true, false, ◌&&◌, not, cond, List, [], ◌∷◌, ◌++◌, map, drop, Option, length, set, Result, Err, refl, sym, ap, subst, ◌∙◌, inl, inr}
use Rattle.std.specs.Prelude.{filter, filter_map}
use Rattle.std.proofs.lemmas.Bool.{cases_Bool, eq-eqb, eqb-true, and_parts, false≢true}
use Rattle.phase_modes.specs.Lists.{is_empty}
use Rattle.phase_modes.specs.declared.refusal.Refusal.{Refusal}
use Rattle.phase_modes.specs.declared.refusal.Refusal.TheVariants.{NotNow}
use Rattle.finish_core.specs.declared.event.FinishEvent.{FinishEvent}
use Rattle.finish_core.specs.declared.event.FinishEvent.TheVariants.{Spawned, Ended, Shut as Shutting}
use Rattle.finish_core.specs.Finish.{FinishStory, is_open, is_spawned, has_ended}
use Rattle.world_model.specs.declared.event.Step.TheVariants.{Reg, Sig, Pass, Drop}
use Rattle.world_model.specs.declared.event.WorldEvent.{WorldEvent}
use Rattle.world_model.specs.declared.event.WorldEvent.TheVariants.{Phaser, Finish}
use Rattle.world_records.specs.declared.plan.Plan.{Plan}
use Rattle.world_records.specs.declared.plan.Plan.TheVariants as plan
use Rattle.world_records.specs.TaskState.{TaskState}
use Rattle.world_records.specs.WorldState.{WorldState}
use Rattle.world_records.specs.Kept.{blank_task, task_at, finish_at}
use Rattle.world_model.specs.Parts.{finish_past}
use Rattle.world_model.specs.Scopes.{open_finishes, opened_by}
use Rattle.world_model.specs.Due.{due, next_event}
use Rattle.world_model.specs.PartReplies.{finish_returned}
use Rattle.world_model.specs.Replies.{reply, is_made}
use Rattle.world_records.specs.inner.Steps.{done_by, with_task}
use Rattle.world_records.specs.inner.FinishSteps.{is_next, said, finish_called, end_asked, end_result, end_answer, end_noted, end_state}
use Rattle.world_records.proofs.LimitsStay.{limits_by}
use Rattle.world_records.specs.StandsFor.{TaskStands, StandsFor, IsStep, inner_of, end_of, due_by}
use Rattle.world_records.specs.Plans.{has_left}
use Rattle.world_model.proofs.OthersLeave.{due_other, due_own}
use Rattle.world_model.proofs.FinishesLegal.{event_allowed}
use Rattle.world_records.proofs.TableReads.{read_set}
use Rattle.world_records.proofs.NextRead.{next_is}
use Rattle.world_records.proofs.HeadsOf.{no_steps, alone, is_alone}
use Rattle.world_records.proofs.FinishMoves.{finish_stands, done_ok, same_done, not_made, asked_ok, open_within, next_within, first_is}

pub end_asked_is : (s : WorldState) (w : List WorldEvent) (f t : ℕ) → StandsFor w s → end_asked s f t ≡ is_next (next_event s.limits t w) (Finish f (Ended t))
end_asked_is s w f t st = ap (λ o. is_next o (Finish f (Ended t))) (next_is s t w st)

answer_by : (b : Bool) (r : Result (Unit {0}) Refusal) → done_by (cond b r (Err NotNow)) ≡ cond b (finish_returned r) (Err NotNow)
answer_by true r = same_done r
answer_by false r = refl

pub end_answers : (s : WorldState) (w : List WorldEvent) (f t : ℕ) → StandsFor w s → end_answer s f t ≡ reply s.limits w (Finish f (Ended t))
end_answers s w f t st =
    rw (end_asked_is s w f t st, (st.finishes f).story)
    (answer_by (is_next (next_event s.limits t w) (Finish f (Ended t))) (said (record { tasks = s.limits.tasks; past = finish_past f w }) (Ended t)))

-- all finishes that were open are open after it
still_open : (h : List FinishEvent) (t : ℕ) (b : Bool) → (b ≡ true → is_open h ≡ true) → is_open (cond b (Ended t ∷ h) h) ≡ is_open h
still_open h t false k = refl
still_open [] t true k = absurd (false≢true (k refl))
still_open (e ∷ h) t true k = refl

same_filter : (p q : ℕ → Bool) (xs : List ℕ) → ((n : ℕ) → p n ≡ q n) → filter p xs ≡ filter q xs
same_filter p q [] e = refl
same_filter p q (x ∷ xs) e = rw (e x) (ap (λ ys. cond (q x) (x ∷ ys) ys) (same_filter p q xs e))

pub open_same : (u f t : ℕ) (w : List WorldEvent) → is_open (finish_past f w) ≡ true → open_finishes u (Finish f (Ended t) ∷ w) ≡ open_finishes u w
open_same u f t w k =
    same_filter (λ g. is_open (finish_past g (Finish f (Ended t) ∷ w))) (λ g. is_open (finish_past g w)) (filter_map (opened_by u) w)
    (λ g. still_open (finish_past g w) t (f == g) (λ e. subst (λ v. is_open (finish_past v w) ≡ true) (eqb-true f g e) k))

-- a task whose end is the first event due has nothing else to do
record AtEnd (k : TaskState) (tail : List WorldEvent) : Type 0 where
  none_left : k.left ≡ []
  last : tail ≡ []

at_end : (f t : ℕ) (k : TaskState) (fs : List ℕ) (tail : List WorldEvent) (p : Plan) → has_left p k.left ≡ true → due_by t k fs p ≡ Finish f (Ended t) ∷ tail → AtEnd k tail
at_end f t k fs tail plan.Idle h e = absurd cc
at_end f t k fs tail (plan.Signalling x turn) h e = absurd (is_alone k.left h (no_steps (λ n. Phaser n (Sig t x)) k.left _ tail f (Ended t) (λ n ds q. cc) e).0)
at_end f t k fs tail plan.Turning h e = absurd (by_left k.left h e)
  where
    by_left : (ls : List ℕ) → not (is_empty ls) ≡ true → map (λ n. Phaser n (Pass t)) ls ≡ Finish f (Ended t) ∷ tail → ⊥
    by_left [] a b = cc
    by_left (n ∷ ns) a b = cc
at_end f t k fs tail (plan.Spawning c pairs made) h e =
    let a = no_steps (λ p. Phaser p.phaser (Reg t c p.mode)) (drop made pairs) (Finish (inner_of k fs) (Spawned c) ∷ []) tail f (Ended t) (λ p ds q. cc) e in
    absurd (other (inner_of k fs) c (alone (Finish (inner_of k fs) (Spawned c)) (Finish f (Ended t)) tail a.1).0)
  where
    other : (i c : ℕ) → Finish i (Spawned c) ≡ Finish f (Ended t) → ⊥
    other i c q = cc
at_end f t k fs tail plan.Shutting h e =
    let a = no_steps (λ n. Phaser n (Drop t)) k.left (Finish (inner_of k fs) Shutting ∷ []) tail f (Ended t) (λ n ds q. cc) e in
    absurd (other (inner_of k fs) (alone (Finish (inner_of k fs) Shutting) (Finish f (Ended t)) tail a.1).0)
  where
    other : (i : ℕ) → Finish i Shutting ≡ Finish f (Ended t) → ⊥
    other i q = cc
at_end f t k fs tail (plan.Ending c) h e =
    let a = no_steps (λ n. Phaser n (Drop c)) k.left (map (λ n. Phaser n (Drop t)) k.phasers ++ (map (λ g. Finish g Shutting) fs ++ end_of t k ∷ [])) tail f (Ended t) (λ n ds q. cc) e in
    let b = no_steps (λ n. Phaser n (Drop t)) k.phasers (map (λ g. Finish g Shutting) fs ++ end_of t k ∷ []) tail f (Ended t) (λ n ds q. cc) a.1 in
    let c = no_steps (λ g. Finish g Shutting) fs (end_of t k ∷ []) tail f (Ended t) (λ n ds q. cc) b.1 in
    record { none_left = a.0; last = (alone (end_of t k) (Finish f (Ended t)) tail c.1).1 }

module _ (outers : List (Option ℕ)) (w : List WorldEvent) (f t : ℕ) (still : is_open (finish_past f w) ≡ true) where
  other_line : (u : ℕ) (k : TaskState) → (t == u) ≡ false → TaskStands outers w u k → TaskStands outers (Finish f (Ended t) ∷ w) u k
  other_line u k other st =
      let same : open_finishes u (Finish f (Ended t) ∷ w) ≡ open_finishes u w = open_same u f t w still in
      let due_same : due u (Finish f (Ended t) ∷ w) ≡ due u w = due_other u (Finish f (Ended t)) w other in
      record {
        due_is = due_same ∙ rw same st.due_is;
        idle = st.idle ∙ ap (λ ds. is_empty ds) (sym due_same);
        plan = st.plan;
        left = st.left;
        chain = rw same st.chain;
        phasers = st.phasers;
        clock = st.clock;
        acts = st.acts;
        home = st.home;
        spawner = st.spawner;
        named = st.named;
        born = st.born;
        ended = rw other st.ended;
        refused = st.refused;
      }

  own_line : (k : TaskState) → TaskStands outers w t k → AtEnd k (drop 1 (due t w)) → TaskStands outers (Finish f (Ended t) ∷ w) t (end_noted k)
  own_line k st at =
      let same : open_finishes t (Finish f (Ended t) ∷ w) ≡ open_finishes t w = open_same t f t w still in
      let made : due t (Finish f (Ended t) ∷ w) ≡ [] = due_own t (Finish f (Ended t)) w refl (eq-eqb t t refl) refl ∙ at.last in
      record {
        due_is = made;
        idle = ap (λ ds. is_empty ds) (sym made);
        plan = refl;
        left = rw at.none_left refl;
        chain = rw same st.chain;
        phasers = st.phasers;
        clock = st.clock;
        acts = st.acts;
        home = st.home;
        spawner = st.spawner;
        named = st.named;
        born = st.born;
        ended = rw (eq-eqb t t refl) refl;
        refused = st.refused;
      }

  lines_by : (u : ℕ) (own old : TaskState) → TaskStands outers (Finish f (Ended t) ∷ w) t own → TaskStands outers w u old → TaskStands outers (Finish f (Ended t) ∷ w) u (cond (t == u) own old)
  lines_by u own old a b =
      elim (cases_Bool (t == u)) [
        | inl e ↦ rw e (subst (λ v. TaskStands outers (Finish f (Ended t) ∷ w) v own) (eqb-true t u e) a)
        | inr e ↦ rw e (other_line u old e b)
      ]

pub end_is_step : (s : WorldState) (f t : ℕ) → IsStep (Finish f (Ended t)) s (end_state s f t) (end_answer s f t)
end_is_step s f t = record {
  unchanged = not_made (end_result s f t) s (with_task (finish_called s f (Ended t)) t (end_noted (task_at s t)));
  limits = limits_by (end_result s f t) s (with_task (finish_called s f (Ended t)) t (end_noted (task_at s t))) refl;
  answer = λ w st. end_answers s w f t st;
  stands = λ w st made.
      let k = task_at s t in
      let y = finish_at s f in
      let asked = asked_ok (end_asked s f t) (said y (Ended t)) (done_ok (end_result s f t) made) in
      let accepted : is_made (reply s.limits w (Finish f (Ended t))) ≡ true = ap (λ r. is_made r) (sym (end_answers s w f t st)) ∙ made in
      let still : is_open (finish_past f w) ≡ true =
      (and_parts (is_open (finish_past f w)) (is_spawned t (finish_past f w)) (and_parts (is_open (finish_past f w) && is_spawned t (finish_past f w)) (not (has_ended t (finish_past f w))) (event_allowed s.limits w f (Ended t) accepted)).0).0
      in
      let within : f < length s.finishes = open_within s.finishes f s.limits.tasks (ap (λ (z : FinishStory). is_open z.past) (st.finishes f).story ∙ still) in
      let within_tasks : t < length s.tasks = next_within s t (Finish f (Ended t)) s.tasks t asked.0 in
      let first = first_is s w f (Ended t) (sym (end_asked_is s w f t st) ∙ asked.0) in
      let line = st.tasks t in
      let at : AtEnd k first.0 = at_end f t k (open_finishes t w) first.0 k.plan line.left (sym line.due_is ∙ first.1) in
      let own : TaskStands s.outers (Finish f (Ended t) ∷ w) t (end_noted k) =
      own_line s.outers w f t still k line (record { none_left = at.none_left; last = ap (λ ds. drop 1 ds) first.1 ∙ at.last })
      in
      rw (asked.0, asked.1) (finish_stands s w f (Ended t) tt st (set s.tasks t (end_noted k)) within accepted
      (λ u. subst (λ line. TaskStands s.outers (Finish f (Ended t) ∷ w) u line) (sym (read_set s.tasks t u (end_noted k) blank_task within_tasks))
      (lines_by s.outers w f t still u (end_noted k) (task_at s u) own (st.tasks u))));
}
