-- The shut of a finish: the answer is the history's, and the world stands for what follows.
use Rattle.std.proofs.Common.{◌≡◌, ℕ, ◌<◌, ◌==◌, Bool, true, false, ◌&&◌, ◌||◌, not, cond, if◌then◌else◌, List, [], ◌∷◌, ◌++◌, map, drop, Option, None, length, get_or, set, Result, Ok, Err, refl, sym, ap, subst, ◌∙◌, inl, inr}
use Rattle.std.proofs.lemmas.Bool.{cases_Bool, eq-eqb, eqb-true, and_parts, false≢true}
use Rattle.phase_modes.specs.Lists.{is_empty}
use Rattle.phase_modes.specs.declared.refusal.Refusal.{Refusal}
use Rattle.phase_modes.specs.declared.refusal.Refusal.TheVariants.{NotNow}
use Rattle.finish_core.specs.declared.event.FinishEvent.TheVariants.{Spawned, Shut}
use Rattle.finish_core.specs.Finish.{FinishStory, is_open, all_ended}
use Rattle.world_model.specs.declared.event.Step.TheVariants.{Reg, Sig, Pass, Drop}
use Rattle.world_model.specs.declared.event.WorldEvent.{WorldEvent}
use Rattle.world_model.specs.declared.event.WorldEvent.TheVariants.{Phaser, Finish}
use Rattle.world_records.specs.declared.plan.Plan.{Plan}
use Rattle.world_records.specs.declared.plan.Plan.TheVariants as plan
use Rattle.world_model.specs.declared.reply.Reply.TheVariants.{NotYet}
use Rattle.world_records.specs.TaskState.{TaskState}
use Rattle.world_records.specs.WorldState.{WorldState}
use Rattle.world_records.specs.Kept.{blank_task, task_at, finish_at, is_idle_plan}
use Rattle.world_model.specs.Parts.{finish_past}
use Rattle.world_model.specs.Scopes.{open_finishes, owner}
use Rattle.world_model.specs.Due.{due, next_event}
use Rattle.world_model.specs.TaskConditions.{last_entry}
use Rattle.world_model.specs.PartReplies.{finish_returned}
use Rattle.world_model.specs.Replies.{reply, is_made, is_legal_world}
use Rattle.world_records.specs.inner.Steps.{done_by, state_by, with_task}
use Rattle.world_records.specs.inner.FinishSteps.{shut_result, is_next, said, finish_called, owner_in, shut_asked, shut_answer, plan_after_shut, top_after_shut, shut_noted, shut_state}
use Rattle.phase_modes.specs.declared.limits.Limits.{Limits}
use Rattle.world_records.proofs.LimitsStay.{limits_by}
use Rattle.world_records.specs.StandsFor.{TaskStands, StandsFor, IsStep, IsChain, inner_of, end_of, due_by}
use Rattle.world_records.specs.Plans.{fits_plan, has_left}
use Rattle.world_model.proofs.OthersLeave.{due_other, due_own}
use Rattle.world_model.proofs.FinishesLegal.{event_allowed}
use Rattle.world_records.proofs.TableReads.{read_set}
use Rattle.world_records.proofs.NextRead.{next_is}
use Rattle.world_records.proofs.HeadsOf.{no_steps, alone, is_alone}
use Rattle.world_records.proofs.Owners.{root_owned, others_stay, innermost_goes, none_stays}
use Rattle.world_records.proofs.FinishMoves.{finish_stands, done_ok, same_done, open_within, next_within, first_is}

pub shut_asked_is : (s : WorldState) (w : List WorldEvent) (f : ℕ) → StandsFor w s → shut_asked s f ≡ is_next (next_event s.limits (owner f w) w) (Finish f Shut)
shut_asked_is s w f st =
    ap (λ o. is_next o (Finish f Shut)) (next_is s (owner_in s f) w st)
    ∙ ap (λ t. is_next (next_event s.limits t w) (Finish f Shut)) (st.finishes f).owner

answer_by : (a b : Bool) (r : Result (Unit {0}) Refusal) → cond a (cond b (done_by r) (Ok NotYet)) (Err NotNow) ≡ cond a (cond b (finish_returned r) (Ok NotYet)) (Err NotNow)
answer_by a b r = ap (λ x. cond a (cond b x (Ok NotYet)) (Err NotNow)) (same_done r)

pub shut_answers : (s : WorldState) (w : List WorldEvent) (f : ℕ) → StandsFor w s → shut_answer s f ≡ reply s.limits w (Finish f Shut)
shut_answers s w f st =
    rw (shut_asked_is s w f st, (st.finishes f).story)
    (answer_by (is_next (next_event s.limits (owner f w) w) (Finish f Shut)) (all_ended (finish_past f w)) (said (record { tasks = s.limits.tasks; past = finish_past f w }) Shut))

-- what follows from an answer that is made, or isn't
shut_ok : (a b : Bool) (r : Result (Unit {0}) Refusal) → is_made (cond a (cond b (done_by r) (Ok NotYet)) (Err NotNow)) ≡ true → (a ≡ true) × ((b ≡ true) × (r ≡ Ok tt))
shut_ok true true r k = (refl, (refl, done_ok r k))
shut_ok true false r k = absurd cc
shut_ok false b r k = absurd cc

shut_unchanged : (a b : Bool) (r : Result (Unit {0}) Refusal) (old new : WorldState) → is_made (cond a (cond b (done_by r) (Ok NotYet)) (Err NotNow)) ≡ false → state_by (cond a (cond b r (Err NotNow)) (Err NotNow)) old new ≡ old
shut_unchanged true true (Ok u) old new k = absurd cc
shut_unchanged true true (Err r) old new k = refl
shut_unchanged true false r old new k = refl
shut_unchanged false b r old new k = refl

not_empty : (xs : List WorldEvent) (y : WorldEvent) → is_empty (xs ++ y ∷ []) ≡ false
not_empty [] y = refl
not_empty (x ∷ xs) y = refl

heads : (g f : ℕ) (xs tail : List WorldEvent) → Finish g Shut ∷ xs ≡ Finish f Shut ∷ tail → (g ≡ f) × (xs ≡ tail)
heads g f xs tail h = (cc, cc)

module _ (outers : List (Option ℕ)) (w : List WorldEvent) (f t : ℕ) (l : Limits) (legal : is_legal_world l w ≡ true) (by : owner f w ≡ t) where
  other_line : (u : ℕ) (k : TaskState) → (t == u) ≡ false → TaskStands outers w u k → TaskStands outers (Finish f Shut ∷ w) u k
  other_line u k other st =
      let elsewhere : (owner f w == u) ≡ false = ap (λ v. v == u) by ∙ other in
      let same : open_finishes u (Finish f Shut ∷ w) ≡ open_finishes u w = others_stay l u f w legal elsewhere in
      let due_same : due u (Finish f Shut ∷ w) ≡ due u w = due_other u (Finish f Shut) w elsewhere in
      record {
        due_is = due_same ∙ rw same st.due_is;
        idle = st.idle ∙ ap (λ ds. is_empty ds) (sym due_same);
        plan = st.plan;
        left = st.left;
        chain = rw same st.chain;
        phasers = st.phasers;
        clock = st.clock;
        acts = st.acts;
        home = st.home;
        spawner = st.spawner;
        named = st.named;
        born = st.born;
        ended = rw (not_root (f == 0) (u == 0) refl refl) st.ended;
        refused = st.refused;
      }
    where
      -- the shut of finish 0 is the root's own
      not_root : (a b : Bool) → (f == 0) ≡ a → (u == 0) ≡ b → (f == 0 && u == 0) ≡ false
      not_root true true a b =
          let root : t ≡ 0 = sym by ∙ (ap (λ g. owner g w) (eqb-true f 0 a) ∙ root_owned l w legal) in
          absurd (false≢true (sym other ∙ eq-eqb t u (root ∙ sym (eqb-true u 0 b))))
      not_root true false a b = rw (a, b) refl
      not_root false b a c = rw a refl

  module _ (k : TaskState) (st : TaskStands outers w t k) where
    made : due t (Finish f Shut ∷ w) ≡ drop 1 (due t w)
    made = due_own t (Finish f Shut) w refl (eq-eqb (owner f w) t by) refl

    own_line : (p : Plan) (top : Option ℕ) (fs : List ℕ)
        → open_finishes t (Finish f Shut ∷ w) ≡ fs
        → drop 1 (due t w) ≡ due_by t k fs p
        → is_idle_plan p ≡ is_empty (due_by t k fs p)
        → fits_plan p (last_entry t w) ≡ true
        → has_left p k.left ≡ true
        → IsChain outers top fs
        → TaskStands outers (Finish f Shut ∷ w) t (record k { plan = p; innermost = top; is_ended = (f == 0 && t == 0) || k.is_ended })
    own_line p top fs opens rest idle fits has chain =
        record {
          due_is = rw opens (made ∙ rest);
          idle = idle ∙ ap (λ ds. is_empty ds) (sym (made ∙ rest));
          plan = fits;
          left = has;
          chain = rw opens chain;
          phasers = st.phasers;
          clock = st.clock;
          acts = st.acts;
          home = st.home;
          spawner = st.spawner;
          named = st.named;
          born = st.born;
          ended = ap (λ b. (f == 0 && t == 0) || b) st.ended;
          refused = st.refused;
        }

    shut_line : (p : Plan) (top : Option ℕ) → plan_after_shut k.plan k.innermost ≡ p → top_after_shut outers f k.innermost ≡ top
        → TaskStands outers (Finish f Shut ∷ w) t (record k { plan = p; innermost = top; is_ended = (f == 0 && t == 0) || k.is_ended })
        → TaskStands outers (Finish f Shut ∷ w) t (shut_noted outers f t k)
    shut_line p top a b x = rw (a, b) x

    -- the shut is the last event of the act
    last_shut : (fs : List ℕ) → open_finishes t (Finish f Shut ∷ w) ≡ fs → IsChain outers (top_after_shut outers f k.innermost) fs → plan_after_shut k.plan k.innermost ≡ plan.Idle → k.left ≡ [] → drop 1 (due t w) ≡ []
        → TaskStands outers (Finish f Shut ∷ w) t (shut_noted outers f t k)
    last_shut fs opens chain idle none last =
        shut_line plan.Idle (top_after_shut outers f k.innermost) idle refl (own_line plan.Idle (top_after_shut outers f k.innermost) fs opens last refl refl (rw none refl) chain)

    -- the innermost finish is shut
    module _ (g : ℕ) (gs : List ℕ) (opens : open_finishes t w ≡ g ∷ gs) (chain : IsChain outers k.innermost (g ∷ gs)) (here : g ≡ f) where
      next_open : open_finishes t (Finish f Shut ∷ w) ≡ gs
      next_open = innermost_goes l t f gs w legal (subst (λ i. open_finishes t w ≡ i ∷ gs) here opens)

      next_top : top_after_shut outers f k.innermost ≡ get_or outers f None
      next_top = rw chain.0 refl

      next_chain : IsChain outers (top_after_shut outers f k.innermost) gs
      next_chain = rw next_top (subst (λ i. IsChain outers (get_or outers i None) gs) here chain.1)

    by_plan : (p : Plan) (fs : List ℕ) (ds : List WorldEvent) → k.plan ≡ p → has_left p k.left ≡ true → open_finishes t w ≡ fs → IsChain outers k.innermost fs → due t w ≡ Finish f Shut ∷ ds → due_by t k fs p ≡ Finish f Shut ∷ ds
        → TaskStands outers (Finish f Shut ∷ w) t (shut_noted outers f t k)
    by_plan plan.Idle fs ds q h o c d e = absurd cc
    by_plan (plan.Signalling x turn) fs ds q h o c d e =
        absurd (is_alone k.left h (no_steps (λ n. Phaser n (Sig t x)) k.left (if turn then map (λ n. Phaser n (Pass t)) k.phasers else []) ds f Shut (λ n es r. cc) e).0)
    by_plan plan.Turning fs ds q h o c d e = absurd (by_left k.left h e)
      where
        by_left : (ls : List ℕ) → not (is_empty ls) ≡ true → map (λ n. Phaser n (Pass t)) ls ≡ Finish f Shut ∷ ds → ⊥
        by_left [] a b = cc
        by_left (n ∷ ns) a b = cc
    by_plan (plan.Spawning i pairs made) fs ds q h o c d e =
        let a = no_steps (λ p. Phaser p.phaser (Reg t i p.mode)) (drop made pairs) (Finish (inner_of k fs) (Spawned i) ∷ []) ds f Shut (λ p es r. cc) e in
        absurd (other (inner_of k fs) (alone (Finish (inner_of k fs) (Spawned i)) (Finish f Shut) ds a.1).0)
      where
        other : (j : ℕ) → Finish j (Spawned i) ≡ Finish f Shut → ⊥
        other j r = cc
    by_plan plan.Shutting [] ds q h o c d e =
        let a = no_steps (λ n. Phaser n (Drop t)) k.left (Finish k.home Shut ∷ []) ds f Shut (λ n es r. cc) e in
        last_shut [] (none_stays t f w o) (rw c refl) (rw q refl) a.0 (ap (λ es. drop 1 es) d ∙ sym (heads k.home f [] ds a.1).1)
    by_plan plan.Shutting (g ∷ gs) ds q h o c d e =
        let a = no_steps (λ n. Phaser n (Drop t)) k.left (Finish g Shut ∷ []) ds f Shut (λ n es r. cc) e in
        let b = heads g f [] ds a.1 in
        last_shut gs (next_open g gs o c b.0) (next_chain g gs o c b.0) (rw q refl) a.0 (ap (λ es. drop 1 es) d ∙ sym b.1)
    by_plan (plan.Ending i) [] ds q h o c d e =
        let a = no_steps (λ n. Phaser n (Drop i)) k.left (map (λ n. Phaser n (Drop t)) k.phasers ++ end_of t k ∷ []) ds f Shut (λ n es r. cc) e in
        let b = no_steps (λ n. Phaser n (Drop t)) k.phasers (end_of t k ∷ []) ds f Shut (λ n es r. cc) a.1 in
        last_shut [] (none_stays t f w o) (rw c refl) (rw (q, c) refl) a.0 (ap (λ es. drop 1 es) d ∙ (alone (end_of t k) (Finish f Shut) ds b.1).1)
    by_plan (plan.Ending i) (g ∷ gs) ds q h o c d e =
        let rest = map (λ j. Finish j Shut) gs ++ end_of t k ∷ [] in
        let a = no_steps (λ n. Phaser n (Drop i)) k.left (map (λ n. Phaser n (Drop t)) k.phasers ++ Finish g Shut ∷ rest) ds f Shut (λ n es r. cc) e in
        let b = no_steps (λ n. Phaser n (Drop t)) k.phasers (Finish g Shut ∷ rest) ds f Shut (λ n es r. cc) a.1 in
        let v = heads g f rest ds b.1 in
        let left : due_by t k gs (plan.Ending i) ≡ rest = rw (a.0, b.0) refl in
        shut_line (plan.Ending i) (top_after_shut outers f k.innermost) (rw (q, c.0) refl) refl
        (own_line (plan.Ending i) (top_after_shut outers f k.innermost) gs (next_open g gs o c v.0) (ap (λ es. drop 1 es) d ∙ (sym v.1 ∙ sym left)) (sym (ap (λ es. is_empty es) left ∙ not_empty (map (λ j. Finish j Shut) gs) (end_of t k)))
        (ap (λ p. fits_plan p (last_entry t w)) (sym q) ∙ st.plan) refl (next_chain g gs o c v.0))

  lines_by : (u : ℕ) (own old : TaskState) → TaskStands outers (Finish f Shut ∷ w) t own → TaskStands outers w u old → TaskStands outers (Finish f Shut ∷ w) u (cond (t == u) own old)
  lines_by u own old a b =
      elim (cases_Bool (t == u)) [
        | inl e ↦ rw e (subst (λ v. TaskStands outers (Finish f Shut ∷ w) v own) (eqb-true t u e) a)
        | inr e ↦ rw e (other_line u old e b)
      ]

pub shut_is_step : (s : WorldState) (f : ℕ) → IsStep (Finish f Shut) s (shut_state s f) (shut_answer s f)
shut_is_step s f = record {
  unchanged = shut_unchanged (shut_asked s f) (all_ended (finish_at s f).past) (said (finish_at s f) Shut) s (with_task (finish_called s f Shut) (owner_in s f) (shut_noted s.outers f (owner_in s f) (task_at s (owner_in s f))));
  limits = limits_by (shut_result s f) s (with_task (finish_called s f Shut) (owner_in s f) (shut_noted s.outers f (owner_in s f) (task_at s (owner_in s f)))) refl;
  answer = λ w st. shut_answers s w f st;
  stands = λ w st made.
      let t = owner_in s f in
      let k = task_at s t in
      let y = finish_at s f in
      let by : owner f w ≡ t = sym (st.finishes f).owner in
      let ok = shut_ok (shut_asked s f) (all_ended y.past) (said y Shut) made in
      let accepted : is_made (reply s.limits w (Finish f Shut)) ≡ true = ap (λ r. is_made r) (sym (shut_answers s w f st)) ∙ made in
      let still : is_open (finish_past f w) ≡ true = (and_parts (is_open (finish_past f w)) (all_ended (finish_past f w)) (event_allowed s.limits w f Shut accepted)).0 in
      let within : f < length s.finishes = open_within s.finishes f s.limits.tasks (ap (λ (z : FinishStory). is_open z.past) (st.finishes f).story ∙ still) in
      let within_tasks : t < length s.tasks = next_within s t (Finish f Shut) s.tasks t ok.0 in
      let first = first_is s w f Shut (sym (shut_asked_is s w f st) ∙ ok.0) in
      let line = st.tasks t in
      let due_is : due t w ≡ Finish f Shut ∷ first.0 = ap (λ v. due v w) (sym by) ∙ first.1 in
      let own : TaskStands s.outers (Finish f Shut ∷ w) t (shut_noted s.outers f t k) =
      by_plan s.outers w f t s.limits st.legal by k line k.plan (open_finishes t w) first.0 refl line.left refl line.chain due_is (sym line.due_is ∙ due_is)
      in
      rw (ok.1.1, ok.0, ok.1.0) (finish_stands s w f Shut tt st (set s.tasks t (shut_noted s.outers f t k)) within accepted
      (λ u. subst (λ line. TaskStands s.outers (Finish f Shut ∷ w) u line) (sym (read_set s.tasks t u (shut_noted s.outers f t k) blank_task within_tasks))
      (lines_by s.outers w f t s.limits st.legal by u (shut_noted s.outers f t k) (task_at s u) own (st.tasks u))));
}
