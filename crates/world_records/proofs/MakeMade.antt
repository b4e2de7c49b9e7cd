-- The making of a phaser: the answer is the history's, and the world stands for what follows.
use Rattle.std.proofs.Common.{◌≡◌, ℕ, ◌+◌, ◌<◌, ◌==◌, Bool, true, false, ◌&&◌, ◌||◌, not, nat_lt, drop, cond, List, [], ◌∷◌, ◌++◌, Option, Some, None, length, get_or, Result, Ok, refl, sym, ap, subst, ◌∙◌, arith, inl, inr}
use Rattle.std.proofs.lemmas.Bool.{cases_Bool, eq-eqb, eqb-true, and_parts, and_from, ltb-true}
use Rattle.std.proofs.lemmas.List.Sums.{sum_by-cons}
use Rattle.phase_modes.specs.Lists.{is_empty}
use Rattle.phase_modes.specs.declared.limits.Limits.{Limits}
use Rattle.phase_modes.specs.declared.reg.Mode.{Mode}
use Rattle.phase_modes.specs.declared.refusal.Refusal.{Refusal}
use Rattle.phase_modes.specs.declared.refusal.Refusal.TheVariants.{NotNow, ActsFull, PhasersFull}
use Rattle.phase_modes.specs.Refusal.{first_refusal}
use Rattle.phase_model.specs.declared.terms.Terms.{Terms}
use Rattle.phase_model.specs.declared.history.Event.{Event}
use Rattle.phase_model.specs.declared.history.Event.TheVariants.{Make as Made}
use Rattle.phase_model.specs.Rules.{Story}
use Rattle.phase_model.specs.Tasks.{is_registered}
use Rattle.phase_model.specs.Replies as phaser
use Rattle.phase_model.specs.Replies.{decided, done, done_result}
use Rattle.phase_model.specs.declared.call.Call.TheVariants.{Make as make}
use Rattle.world_model.specs.declared.event.Step.TheVariants.{Make}
use Rattle.world_model.specs.declared.event.Tried.TheVariants.{New}
use Rattle.world_model.specs.declared.event.WorldEvent.{WorldEvent}
use Rattle.world_model.specs.declared.event.WorldEvent.TheVariants.{Phaser}
use Rattle.world_records.specs.declared.plan.Plan.TheVariants as plan
use Rattle.world_model.specs.declared.reply.Reply.{Reply}
use Rattle.world_records.specs.TaskState.{TaskState}
use Rattle.world_records.specs.WorldState.{WorldState}
use Rattle.world_records.specs.Kept.{inner_at, blank_task, blank_story, task_at, story_at, is_ready, is_idle_plan}
use Rattle.world_model.specs.Parts.{terms_of, phaser_past, story_of}
use Rattle.world_model.specs.Tasks.{phasers_of, acts, is_act}
use Rattle.world_model.specs.Scopes.{open_finishes, inner}
use Rattle.world_model.specs.Due.{due}
use Rattle.world_model.specs.Acts.{act_conditions, unless}
use Rattle.world_model.specs.PartReplies.{phaser_reply}
use Rattle.world_model.specs.Replies.{reply, is_made, is_accepted, is_legal_world}
use Rattle.world_records.specs.inner.Steps.{done_by}
use Rattle.world_records.specs.inner.Registering.{make_conditions, make_result, make_answer, make_state, making, made, result_unless}
use Rattle.world_records.proofs.LimitsStay.{limits_by}
use Rattle.world_records.specs.StandsFor.{TaskStands, StandsFor, IsStep, due_by}
use Rattle.world_model.proofs.OthersLeave.{due_own}
use Rattle.world_records.proofs.Fits.{fitting}
use Rattle.world_records.proofs.TableReads.{read_set}
use Rattle.world_records.proofs.Ready.{ready_is_idle, ready_within}
use Rattle.world_model.proofs.PhasersOnce.{joins, joined_once}
use Rattle.world_model.proofs.NewlyJoined.{own_joined}
use Rattle.world_model.proofs.UntouchedStays.{phasers_same}
use Rattle.world_records.proofs.Outcomes.{idle_plan, made_ok, unchanged_by, settled_as, done_as}
use Rattle.world_records.proofs.Joins.{other_stands, inner_is}

pub conditions_are : (s : WorldState) (w : List WorldEvent) (n t : ℕ) (m : Mode) (terms : Terms) → StandsFor w s → first_refusal (make_conditions s n t) ≡ first_refusal (act_conditions s.limits w t (New n m terms))
conditions_are s w n t m terms st =
    let past : (story_at s n).past ≡ phaser_past n w = ap (λ (y : Story). y.past) (st.phasers n).story in
    rw (ready_is_idle s.outers w t (task_at s t) (st.tasks t), (st.tasks t).acts, past, (st.tasks t).phasers) refl

by_refusal : (o : Option Refusal) (u : Result (Unit {0}) Refusal) (r : Result Reply Refusal) → done_by u ≡ r → done_by (result_unless o u) ≡ unless o r
by_refusal None u r e = e
by_refusal (Some x) u r e = refl

pub make_answers : (s : WorldState) (w : List WorldEvent) (n t : ℕ) (m : Mode) (terms : Terms) → StandsFor w s → make_answer s n t m ≡ reply s.limits w (Phaser n (Make t m terms))
make_answers s w n t m terms st =
    let asked : done_by (done_result (phaser.reply (story_at s n) (make t m))) ≡ phaser_reply s.limits w n (Make t m terms) =
    ap (λ y. done_by (done_result (phaser.reply y (make t m)))) (st.phasers n).story ∙ done_as (phaser_past n w) _ _ (Made t m) refl
    in
    rw (conditions_are s w n t m terms st) (by_refusal _ _ _ asked)

record Free (ready empty few below room : Bool) : Type 0 where
  is_ready : ready ≡ true
  is_new : empty ≡ true
  has_acts : few ≡ true
  is_below : below ≡ true

all_met : (ready empty few below room : Bool) → first_refusal ((NotNow, ready) ∷ (NotNow, not (not empty)) ∷ (ActsFull, not true || few) ∷ (PhasersFull, below) ∷ (PhasersFull, room) ∷ []) ≡ None → Free ready empty few below room
all_met true true true true room e = record { is_ready = refl; is_new = refl; has_acts = refl; is_below = refl }
all_met false empty few below room e = absurd cc
all_met true false few below room e = absurd cc
all_met true true false below room e = absurd cc
all_met true true true false room e = absurd cc

both_parts : (o : Option Refusal) (u : Result (Unit {0}) Refusal) → result_unless o u ≡ Ok tt → (o ≡ None) × (u ≡ Ok tt)
both_parts None u e = (refl, e)
both_parts (Some r) u e = absurd cc

no_events : (h : List Event) → is_empty h ≡ true → h ≡ []
no_events [] e = refl
no_events (x ∷ h) e = absurd cc

module _ (outers : List (Option ℕ)) (w : List WorldEvent) (n t : ℕ) (m : Mode) (terms : Terms) where
  other_line : (u : ℕ) (k : TaskState) → (t == u) ≡ false → TaskStands outers w u k → TaskStands outers (Phaser n (Make t m terms) ∷ w) u k
  other_line u k other st =
      other_stands outers w u n k (Make t m terms) other (phasers_same u (Phaser n (Make t m terms)) w other) (rw other refl) st

  own_line : (k : TaskState) → phaser_past n w ≡ [] → joins t n w ≡ 0 → k.plan ≡ plan.Idle → k.acts < 65536 → TaskStands outers w t k → TaskStands outers (Phaser n (Make t m terms) ∷ w) t (making n k)
  own_line k new none idle few st =
      let nothing : due t w ≡ [] = st.due_is ∙ ap (λ p. due_by t k (open_finishes t w) p) idle in
      let after : due t (Phaser n (Make t m terms) ∷ w) ≡ [] = due_own t (Phaser n (Make t m terms)) w refl (eq-eqb t t refl) refl ∙ ap (λ ds. drop 1 ds) nothing in
      let counted : acts t (Phaser n (Make t m terms) ∷ w) ≡ cond (t == t) 1 0 + acts t w = sum_by-cons (λ e. cond (is_act t e) 1 0) (Phaser n (Make t m terms)) w in
      let one_more : acts t (Phaser n (Make t m terms) ∷ w) ≡ 1 + acts t w = counted ∙ ap (λ b. cond b 1 0 + acts t w) (eq-eqb t t refl) in
      let joined : phasers_of t (Phaser n (Make t m terms) ∷ w) ≡ phasers_of t w ++ n ∷ [] =
      own_joined t n (Make t m terms) w (rw (eq-eqb t t refl) refl) (rw (eq-eqb n n refl, eq-eqb t t refl, new) refl) none
      in
      record {
        due_is = rw idle after;
        idle = rw idle (ap (λ ds. is_empty ds) (sym after));
        plan = st.plan;
        left = st.left;
        chain = st.chain;
        phasers = ap (λ ns. ns ++ n ∷ []) st.phasers ∙ sym joined;
        clock = st.clock;
        acts = omega (arith, one_more, st.acts, few);
        home = st.home;
        spawner = st.spawner;
        named = st.named;
        born = st.born;
        ended = st.ended;
        refused = st.refused;
      }

  lines_by : (u : ℕ) (own old : TaskState) → TaskStands outers (Phaser n (Make t m terms) ∷ w) t own → TaskStands outers w u old → TaskStands outers (Phaser n (Make t m terms) ∷ w) u (cond (t == u) own old)
  lines_by u own old a b =
      elim (cases_Bool (t == u)) [
        | inl e ↦ rw e (subst (λ v. TaskStands outers (Phaser n (Make t m terms) ∷ w) v own) (eqb-true t u e) a)
        | inr e ↦ rw e (other_line u old e b)
      ]

-- the stories of the phasers after it
story_by : (l : Limits) (n t i : ℕ) (m : Mode) (terms : Terms) (w : List WorldEvent) (here there : Story) (b : Bool) → (n == i) ≡ b
    → here ≡ story_of l n w → there ≡ story_of l i w
    → cond b (record { limits = here.limits; terms = terms; past = Made t m ∷ here.past }) there
    ≡ record { limits = l; terms = cond b terms (terms_of i w); past = cond b (Made t m ∷ phaser_past i w) (phaser_past i w) }
story_by l n t i m terms w here there true e h k =
    let same : phaser_past n w ≡ phaser_past i w = ap (λ v. phaser_past v w) (eqb-true n i e) in
    rw (h, same) refl
story_by l n t i m terms w here there false e h k = k

pub make_is_step : (s : WorldState) (n t : ℕ) (m : Mode) (terms : Terms) → length s.phasers ≡ s.limits.phasers → length s.enclosing ≡ s.limits.phasers
    → IsStep (Phaser n (Make t m terms)) s (make_state s n t m terms) (make_answer s n t m)
make_is_step s n t m terms phasers_size enclosing_size = record {
  unchanged = unchanged_by (make_result s n t m) s (made s n t m terms);
  limits = limits_by (make_result s n t m) s (made s n t m terms) refl;
  answer = λ w st. make_answers s w n t m terms st;
  stands = λ w st is_done.
      let k = task_at s t in
      let y = story_at s n in
      let ok : make_result s n t m ≡ Ok tt = made_ok (make_result s n t m) is_done in
      let parts = both_parts (first_refusal (make_conditions s n t)) (done_result (phaser.reply y (make t m))) ok in
      let free = all_met (is_ready k) (is_empty y.past) (nat_lt k.acts s.limits.acts) (nat_lt n s.limits.phasers) (nat_lt (length k.phasers) 16) parts.0 in
      let replied : phaser.reply y (make t m) ≡ done (Made t m) = settled_as _ _ (Made t m) parts.1 in
      let new : phaser_past n w ≡ [] = ap (λ (z : Story). z.past) (sym (st.phasers n).story) ∙ no_events y.past free.is_new in
      let none : joins t n w ≡ 0 = joined_once s.limits w st.legal t n ∙ ap (λ h. cond (is_registered t h) 1 0) new in
      let below : n < s.limits.phasers = ltb-true n s.limits.phasers free.is_below in
      let few : k.acts < 65536 = omega (arith, ltb-true k.acts s.limits.acts free.has_acts, (fitting s.limits st.fit).acts) in
      let accepted : is_made (reply s.limits w (Phaser n (Make t m terms))) ≡ true = ap (λ r. is_made r) (sym (make_answers s w n t m terms st)) ∙ is_done in
      let idle : k.plan ≡ plan.Idle = idle_plan k.plan (and_parts (k.is_born && not k.is_ended) (is_idle_plan k.plan) free.is_ready).1 in
      let in_phasers : n < length s.phasers = omega (arith, below, phasers_size) in
      let in_enclosing : n < length s.enclosing = omega (arith, below, enclosing_size) in
      let own = own_line s.outers w n t m terms k new none idle few (st.tasks t) in
      rw (ok, replied) (record {
        fit = st.fit;
        finishes_size = st.finishes_size;
        owners_size = st.owners_size;
        outers_size = st.outers_size;
        legal = and_from (is_accepted s.limits w (Phaser n (Make t m terms))) (is_legal_world s.limits w) accepted st.legal;
        phasers = λ i. record {
          story =
              read_set s.phasers n i (record { limits = y.limits; terms = terms; past = Made t m ∷ y.past }) (blank_story s.limits) in_phasers
              ∙ story_by s.limits n t i m terms w y (story_at s i) (n == i) refl (st.phasers n).story (st.phasers i).story;
          enclosing =
              read_set s.enclosing n i (inner_at k) 0 in_enclosing
              ∙ (ap (λ o. cond (n == i) o (get_or s.enclosing i 0)) (inner_is s.outers w t k (st.tasks t)) ∙ ap (λ o. cond (n == i) (inner t w) o) (st.phasers i).enclosing);
        };
        finishes = λ f. record { story = (st.finishes f).story; owner = (st.finishes f).owner };
        tasks = λ u.
            subst (λ line. TaskStands s.outers (Phaser n (Make t m terms) ∷ w) u line) (sym (read_set s.tasks t u (making n k) blank_task (ready_within s.tasks t free.is_ready)))
            (lines_by s.outers w n t m terms u (making n k) (task_at s u) own (st.tasks u));
      });
}
