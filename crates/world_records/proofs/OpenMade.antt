-- The opening of a finish: the answer is the history's, and the world stands for what follows.
use Rattle.std.proofs.Common.{◌≡◌, ℕ, ◌+◌, ◌<◌, ◌==◌, Bool, true, false, ◌&&◌, ◌||◌, not, nat_lt, min, drop, cond, List, [], ◌∷◌, Option, Some, None, length, set, refl, sym, ap, subst, ◌∙◌, arith, inl, inr}
use Rattle.std.proofs.lemmas.Bool.{cases_Bool, eq-eqb, eqb-true, and_parts, and_from, ltb-true}
use Rattle.std.proofs.lemmas.List.{length-set, get_or-set_same}
use Rattle.std.proofs.lemmas.List.Sums.{sum_by-cons}
use Rattle.phase_modes.specs.Lists.{is_empty}
use Rattle.phase_modes.specs.declared.refusal.Refusal.{Refusal}
use Rattle.phase_modes.specs.declared.refusal.Refusal.TheVariants.{NotNow, ActsFull, FinishesFull}
use Rattle.phase_modes.specs.Refusal.{first_refusal}
use Rattle.finish_core.specs.declared.event.FinishEvent.{FinishEvent}
use Rattle.finish_core.specs.declared.event.FinishEvent.TheVariants.{Opened}
use Rattle.finish_core.specs.Finish.{FinishStory, fresh}
use Rattle.finish_core.specs.Replies as finish
use Rattle.finish_core.specs.Replies.{reply as answer}
use Rattle.world_model.specs.declared.event.Tried.TheVariants.{Open}
use Rattle.world_model.specs.declared.event.WorldEvent.{WorldEvent}
use Rattle.world_model.specs.declared.event.WorldEvent.TheVariants.{Finish}
use Rattle.world_records.specs.declared.plan.Plan.{Plan}
use Rattle.world_records.specs.declared.plan.Plan.TheVariants as plan
use Rattle.world_records.specs.TaskState.{TaskState}
use Rattle.world_records.specs.WorldState.{WorldState}
use Rattle.world_records.specs.Kept.{blank_task, task_at, finish_at, is_ready, is_idle_plan}
use Rattle.world_model.specs.Parts.{finish_past}
use Rattle.world_model.specs.Scopes.{open_finishes}
use Rattle.world_model.specs.Tasks.{acts, is_act}
use Rattle.world_model.specs.Due.{due}
use Rattle.world_model.specs.Acts.{act_conditions, unless}
use Rattle.world_model.specs.PartReplies.{finish_returned}
use Rattle.world_model.specs.Replies.{reply, is_made, is_accepted, is_legal_world}
use Rattle.world_records.specs.inner.Steps.{open_conditions, open_answer, open_state, opening, opened, done_unless, unless_refused}
use Rattle.world_records.proofs.LimitsStay.{limits_unless}
use Rattle.world_records.specs.StandsFor.{TaskStands, StandsFor, IsStep, due_by}
use Rattle.world_model.proofs.OthersLeave.{due_other, due_own, clock_other}
use Rattle.world_records.proofs.Fits.{fitting}
use Rattle.world_records.proofs.TableReads.{read_set}
use Rattle.world_records.proofs.Ready.{ready_is_idle, ready_within}
use Rattle.world_records.proofs.Chains.{others_open, own_open, not_open, chain_set}

conditions_are : (s : WorldState) (w : List WorldEvent) (f t : ℕ) → StandsFor w s → first_refusal (open_conditions s f t) ≡ first_refusal (act_conditions s.limits w t (Open f))
conditions_are s w f t st =
    let past : (finish_at s f).past ≡ finish_past f w = ap (λ (y : FinishStory). y.past) (st.finishes f).story in
    rw (ready_is_idle s.outers w t (task_at s t) (st.tasks t), (st.tasks t).acts, past) refl

-- what is not refused finds a finish without a history
open_by : (ready few below : Bool) (h : List FinishEvent) (tasks t : ℕ)
    → done_unless (first_refusal ((NotNow, ready) ∷ (NotNow, not (not (is_empty h))) ∷ (ActsFull, not true || few) ∷ (FinishesFull, below) ∷ []))
    ≡ unless (first_refusal ((NotNow, ready) ∷ (NotNow, not (not (is_empty h))) ∷ (ActsFull, not true || few) ∷ (FinishesFull, below) ∷ [])) (finish_returned (answer tasks h (Opened t)))
open_by false few below h tasks t = refl
open_by true few below (e ∷ h) tasks t = refl
open_by true false below [] tasks t = refl
open_by true true false [] tasks t = refl
open_by true true true [] tasks t = refl

pub open_answers : (s : WorldState) (w : List WorldEvent) (f t : ℕ) → StandsFor w s → open_answer s f t ≡ reply s.limits w (Finish f (Opened t))
open_answers s w f t st = rw (conditions_are s w f t st) (open_by _ _ _ (finish_past f w) s.limits.tasks t)

record Free (ready empty few below : Bool) : Type 0 where
  is_ready : ready ≡ true
  is_new : empty ≡ true
  has_acts : few ≡ true
  is_below : below ≡ true

all_met : (ready empty few below : Bool) → first_refusal ((NotNow, ready) ∷ (NotNow, not (not empty)) ∷ (ActsFull, not true || few) ∷ (FinishesFull, below) ∷ []) ≡ None → Free ready empty few below
all_met true true true true e = record { is_ready = refl; is_new = refl; has_acts = refl; is_below = refl }
all_met false empty few below e = absurd cc
all_met true false few below e = absurd cc
all_met true true false below e = absurd cc
all_met true true true false e = absurd cc

made_is_free : (o : Option Refusal) → is_made (done_unless o) ≡ true → o ≡ None
made_is_free None e = refl
made_is_free (Some r) e = absurd cc

open_unchanged : (o : Option Refusal) (s new : WorldState) → is_made (done_unless o) ≡ false → unless_refused o s new ≡ s
open_unchanged None s new e = absurd cc
open_unchanged (Some r) s new e = refl

no_events : (h : List FinishEvent) → is_empty h ≡ true → h ≡ []
no_events [] e = refl
no_events (x ∷ h) e = absurd cc

module _ (outers : List (Option ℕ)) (w : List WorldEvent) (f t : ℕ) (x : Option ℕ) (new : finish_past f w ≡ []) where
  other_line : (u : ℕ) (k : TaskState) → (t == u) ≡ false → TaskStands outers w u k → TaskStands (set outers f x) (Finish f (Opened t) ∷ w) u k
  other_line u k other st =
      let same : open_finishes u (Finish f (Opened t) ∷ w) ≡ open_finishes u w = others_open u f t w new other in
      let due_same : due u (Finish f (Opened t) ∷ w) ≡ due u w = due_other u (Finish f (Opened t)) w other in
      record {
        due_is = due_same ∙ rw same st.due_is;
        idle = st.idle ∙ ap (λ ds. is_empty ds) (sym due_same);
        plan = st.plan;
        left = st.left;
        chain = rw same (chain_set outers f x k.innermost (open_finishes u w) (not_open u f w new) st.chain);
        phasers = st.phasers;
        clock = st.clock ∙ ap (λ c. min c 4294967295) (sym (clock_other u (Finish f (Opened t)) w other refl));
        acts = rw other st.acts;
        home = st.home;
        spawner = st.spawner;
        named = st.named;
        born = st.born;
        ended = st.ended;
        refused = st.refused;
      }

  own_line : (k : TaskState) → x ≡ k.innermost → k.plan ≡ plan.Idle → k.acts < 65536 → f < length outers → TaskStands outers w t k → TaskStands (set outers f x) (Finish f (Opened t) ∷ w) t (opening f k)
  own_line k inner idle few within st =
      let none : due t w ≡ [] = st.due_is ∙ ap (λ p. due_by t k (open_finishes t w) p) idle in
      let made : due t (Finish f (Opened t) ∷ w) ≡ [] = due_own t (Finish f (Opened t)) w refl (eq-eqb t t refl) refl ∙ ap (λ ds. drop 1 ds) none in
      let counted : acts t (Finish f (Opened t) ∷ w) ≡ cond (t == t) 1 0 + acts t w = sum_by-cons (λ e. cond (is_act t e) 1 0) (Finish f (Opened t)) w in
      let one_more : acts t (Finish f (Opened t) ∷ w) ≡ 1 + acts t w = counted ∙ ap (λ b. cond b 1 0 + acts t w) (eq-eqb t t refl) in
      record {
        due_is = rw idle made;
        idle = rw idle (ap (λ ds. is_empty ds) (sym made));
        plan = rw idle refl;
        left = st.left;
        chain = rw (own_open f t w new) (refl, rw (get_or-set_same outers f x None within, inner) (chain_set outers f x k.innermost (open_finishes t w) (not_open t f w new) st.chain));
        phasers = st.phasers;
        clock = st.clock;
        acts = omega (arith, one_more, st.acts, few);
        home = st.home;
        spawner = st.spawner;
        named = st.named;
        born = st.born;
        ended = st.ended;
        refused = st.refused;
      }

  lines_by : (u : ℕ) (own old : TaskState) → TaskStands (set outers f x) (Finish f (Opened t) ∷ w) t own → TaskStands outers w u old → TaskStands (set outers f x) (Finish f (Opened t) ∷ w) u (cond (t == u) own old)
  lines_by u own old a b =
      elim (cases_Bool (t == u)) [
        | inl e ↦ rw e (subst (λ v. TaskStands (set outers f x) (Finish f (Opened t) ∷ w) v own) (eqb-true t u e) a)
        | inr e ↦ rw e (other_line u old e b)
      ]

idle_plan : (p : Plan) → is_idle_plan p ≡ true → p ≡ plan.Idle
idle_plan plan.Idle e = refl
idle_plan (plan.Signalling x turn) e = absurd cc
idle_plan plan.Turning e = absurd cc
idle_plan (plan.Spawning c pairs made) e = absurd cc
idle_plan plan.Shutting e = absurd cc
idle_plan (plan.Ending c) e = absurd cc

-- the stories of the finishes after it
story_by : (l f t g : ℕ) (w : List WorldEvent) (here there : FinishStory) (b : Bool) → (f == g) ≡ b → finish_past f w ≡ []
    → here ≡ record { tasks = l; past = finish_past f w } → there ≡ record { tasks = l; past = finish_past g w }
    → cond b (finish.after here (Opened t) (answer here.tasks here.past (Opened t))) there ≡ record { tasks = l; past = cond b (Opened t ∷ finish_past g w) (finish_past g w) }
story_by l f t g w here there true e new h k =
    let same : finish_past g w ≡ [] = ap (λ v. finish_past v w) (sym (eqb-true f g e)) ∙ new in
    rw (h, new, same) refl
story_by l f t g w here there false e new h k = k

pub open_is_step : (s : WorldState) (f t : ℕ) → IsStep (Finish f (Opened t)) s (open_state s f t) (open_answer s f t)
open_is_step s f t = record {
  unchanged = open_unchanged (first_refusal (open_conditions s f t)) s (opened s f t);
  limits = limits_unless (first_refusal (open_conditions s f t)) s (opened s f t) refl;
  answer = λ w st. open_answers s w f t st;
  stands = λ w st made.
      let k = task_at s t in
      let y = finish_at s f in
      let none : first_refusal (open_conditions s f t) ≡ None = made_is_free (first_refusal (open_conditions s f t)) made in
      let free = all_met (is_ready k) (is_empty y.past) (nat_lt k.acts s.limits.acts) (nat_lt f s.limits.finishes) none in
      let new : finish_past f w ≡ [] = ap (λ (z : FinishStory). z.past) (sym (st.finishes f).story) ∙ no_events y.past free.is_new in
      let below : f < s.limits.finishes = ltb-true f s.limits.finishes free.is_below in
      let few : k.acts < 65536 = omega (arith, ltb-true k.acts s.limits.acts free.has_acts, (fitting s.limits st.fit).acts) in
      let accepted : is_made (reply s.limits w (Finish f (Opened t))) ≡ true = ap (λ r. is_made r) (sym (open_answers s w f t st)) ∙ made in
      let idle : k.plan ≡ plan.Idle = idle_plan k.plan (and_parts (k.is_born && not k.is_ended) (is_idle_plan k.plan) free.is_ready).1 in
      let in_finishes : f < length s.finishes = omega (arith, below, st.finishes_size) in
      let in_owners : f < length s.owners = omega (arith, below, st.owners_size) in
      let in_outers : f < length s.outers = omega (arith, below, st.outers_size) in
      let own = own_line s.outers w f t k.innermost new k refl idle few in_outers (st.tasks t) in
      rw none (record {
        fit = st.fit;
        finishes_size = length-set s.finishes f (finish.after y (Opened t) (answer y.tasks y.past (Opened t))) ∙ st.finishes_size;
        owners_size = length-set s.owners f t ∙ st.owners_size;
        outers_size = length-set s.outers f k.innermost ∙ st.outers_size;
        legal = and_from (is_accepted s.limits w (Finish f (Opened t))) (is_legal_world s.limits w) accepted st.legal;
        phasers = λ n. record { story = (st.phasers n).story; enclosing = (st.phasers n).enclosing };
        finishes = λ g. record {
          story =
              read_set s.finishes f g (finish.after y (Opened t) (answer y.tasks y.past (Opened t))) (fresh s.limits.tasks) in_finishes
              ∙ story_by s.limits.tasks f t g w y (finish_at s g) (f == g) refl new (st.finishes f).story (st.finishes g).story;
          owner = read_set s.owners f g t 0 in_owners ∙ ap (λ o. cond (f == g) t o) (st.finishes g).owner;
        };
        tasks = λ u.
            subst (λ line. TaskStands (set s.outers f k.innermost) (Finish f (Opened t) ∷ w) u line) (sym (read_set s.tasks t u (opening f k) blank_task (ready_within s.tasks t free.is_ready)))
            (lines_by s.outers w f t k.innermost new u (opening f k) (task_at s u) own (st.tasks u));
      });
}
