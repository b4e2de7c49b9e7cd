-- A value that is sent or looked at: the answer is the history's, and the world stands for what follows.
use Rattle.std.proofs.Common.{◌≡◌, ℕ, zero, suc, ◌+◌, ◌<◌, ◌==◌, Bool, true, false, ◌&&◌, ◌||◌, not, nat_lt, min, cond, drop, List, [], ◌∷◌, Option, Some, None, length, get_or, Result, Ok, Err, ℤ, refl, sym, ap, ◌∙◌, arith}
use Rattle.std.proofs.lemmas.Bool.{and_parts, eq-eqb, ltb-true}
use Rattle.std.proofs.lemmas.List.Sums.{sum_by-cons}
use Rattle.phase_modes.specs.Lists.{is_empty}
use Rattle.phase_modes.specs.declared.refusal.Refusal.{Refusal}
use Rattle.phase_modes.specs.declared.refusal.Refusal.TheVariants.{NotNow, ActsFull}
use Rattle.phase_modes.specs.Refusal.{first_refusal}
use Rattle.phase_model.specs.declared.history.Event.{Event}
use Rattle.phase_model.specs.declared.history.Event.TheVariants.{Send as Sent, Look as Looked}
use Rattle.phase_model.specs.declared.op.Look.{Look as Seen}
use Rattle.phase_model.specs.Phases.{waits}
use Rattle.phase_model.specs.Rules.{Story, look_of}
use Rattle.phase_model.specs.Replies as phaser
use Rattle.phase_model.specs.Replies.{decided, done, done_result}
use Rattle.phase_model.specs.declared.call.Call.TheVariants.{Send as send, Look as look}
use Rattle.phase_model.specs.Answers.{look_result}
use Rattle.world_model.specs.declared.event.Step.{Step}
use Rattle.world_model.specs.declared.event.Step.TheVariants.{Send, Look}
use Rattle.world_model.specs.declared.event.Tried.TheVariants.{Send as Sending, Look as Looking}
use Rattle.world_model.specs.declared.event.WorldEvent.{WorldEvent}
use Rattle.world_model.specs.declared.event.WorldEvent.TheVariants.{Phaser}
use Rattle.world_records.specs.declared.plan.Plan.TheVariants as plan
use Rattle.world_model.specs.declared.reply.Reply.{Reply}
use Rattle.world_records.specs.TaskState.{TaskState}
use Rattle.world_records.specs.WorldState.{WorldState}
use Rattle.world_records.specs.Kept.{blank_story, task_at, story_at, is_ready, is_idle_plan}
use Rattle.world_model.specs.Parts.{phaser_past, terms_of, event_for}
use Rattle.world_model.specs.Scopes.{open_finishes}
use Rattle.world_model.specs.Tasks.{acts, is_act}
use Rattle.world_model.specs.Due.{due, is_of_single}
use Rattle.world_model.specs.Actors.{actor}
use Rattle.world_model.specs.Clock.{clock}
use Rattle.world_model.specs.Acts.{act_conditions, unless}
use Rattle.world_model.specs.PartReplies.{returned, phaser_reply}
use Rattle.world_model.specs.Replies.{reply, is_made}
use Rattle.world_records.specs.inner.Steps.{done_by, phaser_called, with_task}
use Rattle.world_records.specs.inner.Begins.{counted}
use Rattle.world_records.specs.inner.Sends.{unless_before, act_refusal, send_result, send_answer, send_state, reply_by_look, state_by_look, looked, look_answer, look_state}
use Rattle.world_records.proofs.LimitsStay.{limits_by, limits_by_look}
use Rattle.world_records.specs.StandsFor.{TaskStands, StandsFor, IsStep, due_by}
use Rattle.world_records.proofs.Fits.{fitting}
use Rattle.world_model.proofs.OthersLeave.{due_own}
use Rattle.world_records.proofs.Ready.{ready_is_idle, ready_within}
use Rattle.world_records.proofs.Quiet.{IsQuiet, phasers_same}
use Rattle.world_records.proofs.Called.{step_stands}
use Rattle.world_records.proofs.Outcomes.{idle_plan, unchanged_by, settled_as, done_as, called_within}

-- the state's conditions are the history's, which are the same for both acts
conditions_are : (s : WorldState) (w : List WorldEvent) (n t a : ℕ) → StandsFor w s → act_refusal s t ≡ first_refusal (act_conditions s.limits w t (Looking n a))
conditions_are s w n t a st = rw (ready_is_idle s.outers w t (task_at s t) (st.tasks t), (st.tasks t).acts) refl

all_met : (a b : Bool) → first_refusal ((NotNow, a) ∷ (NotNow, not false) ∷ (ActsFull, not true || b) ∷ []) ≡ None → (a ≡ true) × (b ≡ true)
all_met true true e = (refl, refl)
all_met true false e = absurd cc
all_met false b e = absurd cc

-- the acting task's line after an act on a phaser that takes one event
pub act_line : (outers : List (Option ℕ)) (w : List WorldEvent) (n t : ℕ) (x : Step) (k : TaskState) → IsQuiet x → actor w (Phaser n x) ≡ t → is_of_single (Phaser n x) ≡ false
    → is_act t (Phaser n x) ≡ true → clock t (Phaser n x ∷ w) ≡ clock t w → is_idle_plan k.plan ≡ true → k.acts < 65536
    → TaskStands outers w t k → TaskStands outers (Phaser n x ∷ w) t (counted k)
act_line outers w n t x k quiet by plain act still idle_now few st =
    let idle : k.plan ≡ plan.Idle = idle_plan k.plan idle_now in
    let none : due t w ≡ [] = st.due_is ∙ ap (λ p. due_by t k (open_finishes t w) p) idle in
    let made : due t (Phaser n x ∷ w) ≡ [] = due_own t (Phaser n x) w refl (ap (λ u. u == t) by ∙ eq-eqb t t refl) plain ∙ ap (λ ds. drop 1 ds) none in
    let sum : acts t (Phaser n x ∷ w) ≡ cond (is_act t (Phaser n x)) 1 0 + acts t w = sum_by-cons (λ e. cond (is_act t e) 1 0) (Phaser n x) w in
    let one_more : acts t (Phaser n x ∷ w) ≡ 1 + acts t w = sum ∙ ap (λ b. cond b 1 0 + acts t w) act in
    record {
      due_is = rw idle made;
      idle = rw idle (ap (λ ds. is_empty ds) (sym made));
      plan = st.plan;
      left = st.left;
      chain = st.chain;
      phasers = st.phasers ∙ sym (phasers_same t n x w quiet);
      clock = st.clock ∙ ap (λ c. min c 4294967295) (sym still);
      acts = omega (arith, one_more, st.acts, few);
      home = st.home;
      spawner = st.spawner;
      named = st.named;
      born = st.born;
      ended = st.ended;
      refused = st.refused;
    }

-- a value that is sent
sent_by : (o p : Option Refusal) (u : Result (Unit {0}) Refusal) (r : Result Reply Refusal) → o ≡ p → done_by u ≡ r → done_by (unless_before o u) ≡ unless p r
sent_by None None u r e k = k
sent_by None (Some p) u r e k = absurd cc
sent_by (Some o) None u r e k = absurd cc
sent_by (Some o) (Some p) u r e k = ap (λ q. unless q r) e

pub send_answers : (s : WorldState) (w : List WorldEvent) (n t a : ℕ) (v : ℤ) → StandsFor w s → send_answer s n t a v ≡ reply s.limits w (Phaser n (Send t a v))
send_answers s w n t a v st =
    let answer : done_by (done_result (phaser.reply (story_at s n) (send t a v))) ≡ phaser_reply s.limits w n (Send t a v) =
    ap (λ y. done_by (done_result (phaser.reply y (send t a v)))) (st.phasers n).story ∙ done_as (phaser_past n w) _ _ (Sent t a v) refl
    in
    sent_by (act_refusal s t) (first_refusal (act_conditions s.limits w t (Sending n a v))) (done_result (phaser.reply (story_at s n) (send t a v))) (phaser_reply s.limits w n (Send t a v)) (conditions_are s w n t a st) answer

made_ok : (o : Option Refusal) (u : Result (Unit {0}) Refusal) → is_made (done_by (unless_before o u)) ≡ true → (o ≡ None) × (u ≡ Ok tt)
made_ok None (Ok u) e = (refl, refl)
made_ok None (Err r) e = absurd cc
made_ok (Some r) u e = absurd cc

pub send_is_step : (s : WorldState) (n t a : ℕ) (v : ℤ) → IsStep (Phaser n (Send t a v)) s (send_state s n t a v) (send_answer s n t a v)
send_is_step s n t a v = record {
  unchanged = unchanged_by (send_result s n t a v) s (with_task (phaser_called s n (send t a v)) t (counted (task_at s t)));
  limits = limits_by (send_result s n t a v) s (with_task (phaser_called s n (send t a v)) t (counted (task_at s t))) refl;
  answer = λ w st. send_answers s w n t a v st;
  stands = λ w st made.
      let k = task_at s t in
      let y = story_at s n in
      let ok = made_ok (act_refusal s t) (done_result (phaser.reply y (send t a v))) made in
      let free : act_refusal s t ≡ None = ok.0 in
      let may = all_met (is_ready k) (nat_lt k.acts s.limits.acts) free in
      let few : k.acts < 65536 = omega (arith, ltb-true k.acts s.limits.acts may.1, (fitting s.limits st.fit).acts) in
      let replied : phaser.reply y (send t a v) ≡ done (Sent t a v) = settled_as _ _ (Sent t a v) ok.1 in
      let accepted : is_made (reply s.limits w (Phaser n (Send t a v))) ≡ true = ap (λ r. is_made r) (sym (send_answers s w n t a v st)) ∙ made in
      let idle : is_idle_plan k.plan ≡ true = (and_parts (k.is_born && not k.is_ended) (is_idle_plan k.plan) may.0).1 in
      rw (free, replied) (step_stands s w n (Send t a v) tt st t (counted k) refl (called_within s.limits s.phasers n (send t a v) (λ h. absurd cc) ok.1) (ready_within s.tasks t may.0) accepted
      (act_line s.outers w n t (Send t a v) k tt refl refl (eq-eqb t t refl) refl idle few (st.tasks t)));
}

-- the reply to a look is what the phaser returns
look_returned : (h : List Event) (o : Option Refusal) (room : Bool) (t a : ℕ) (x : Seen ℤ) → reply_by_look (look_result (decided o false room (Looked t a x))) ≡ returned h (decided o false room (Looked t a x))
look_returned h (Some r) room t a x = refl
look_returned h None true t a x = refl
look_returned h None false t a x = refl

looked_by : (o p : Option Refusal) (u : Result (Seen ℤ) Refusal) (r : Result Reply Refusal) → o ≡ p → reply_by_look u ≡ r → reply_by_look (unless_before o u) ≡ unless p r
looked_by None None u r e k = k
looked_by None (Some p) u r e k = absurd cc
looked_by (Some o) None u r e k = absurd cc
looked_by (Some o) (Some p) u r e k = ap (λ q. unless q r) e

pub look_answers : (s : WorldState) (w : List WorldEvent) (n t a : ℕ) → StandsFor w s → look_answer s n t a ≡ reply s.limits w (Phaser n (Look t a))
look_answers s w n t a st =
    let answer : reply_by_look (look_result (phaser.reply (story_at s n) (look t a))) ≡ phaser_reply s.limits w n (Look t a) =
    ap (λ y. reply_by_look (look_result (phaser.reply y (look t a)))) (st.phasers n).story ∙ look_returned (phaser_past n w) _ _ t a _
    in
    looked_by (act_refusal s t) (first_refusal (act_conditions s.limits w t (Looking n a))) (look_result (phaser.reply (story_at s n) (look t a))) (phaser_reply s.limits w n (Look t a)) (conditions_are s w n t a st) answer

look_ok : (o p : Option Refusal) (room : Bool) (t a : ℕ) (x : Seen ℤ) → is_made (reply_by_look (unless_before o (look_result (decided p false room (Looked t a x))))) ≡ true
    → (o ≡ None) × (decided p false room (Looked t a x) ≡ done (Looked t a x))
look_ok None None true t a x e = (refl, refl)
look_ok None None false t a x e = absurd cc
look_ok None (Some r) room t a x e = absurd cc
look_ok (Some r) p room t a x e = absurd cc

look_within : (s : WorldState) (n t a : ℕ) (e : Event) → phaser.reply (story_at s n) (look t a) ≡ done e → n < length s.phasers
look_within s n t a e k = within s.phasers n k
  where
    within : (xs : List Story) (m : ℕ) → phaser.reply (get_or xs m (blank_story s.limits)) (look t a) ≡ done e → m < length xs
    within [] m k = absurd cc
    within (y ∷ ys) zero k = omega arith
    within (y ∷ ys) (suc m) k = omega (arith, within ys m k)

look_unchanged : (u : Result (Seen ℤ) Refusal) (s new : WorldState) → is_made (reply_by_look u) ≡ false → state_by_look u s new ≡ s
look_unchanged (Ok x) s new e = absurd cc
look_unchanged (Err r) s new e = refl

pub look_is_step : (s : WorldState) (n t a : ℕ) → IsStep (Phaser n (Look t a)) s (look_state s n t a) (look_answer s n t a)
look_is_step s n t a = record {
  unchanged = look_unchanged (looked s n t a) s (with_task (phaser_called s n (look t a)) t (counted (task_at s t)));
  limits = limits_by_look (looked s n t a) s (with_task (phaser_called s n (look t a)) t (counted (task_at s t))) refl;
  answer = λ w st. look_answers s w n t a st;
  stands = λ w st made.
      let k = task_at s t in
      let y = story_at s n in
      let seen = Looked t a (look_of y.terms.ops a (waits t y.past) y.past) in
      let ok = look_ok (act_refusal s t) _ _ t a (look_of y.terms.ops a (waits t y.past) y.past) made in
      let free : act_refusal s t ≡ None = ok.0 in
      let may = all_met (is_ready k) (nat_lt k.acts s.limits.acts) free in
      let few : k.acts < 65536 = omega (arith, ltb-true k.acts s.limits.acts may.1, (fitting s.limits st.fit).acts) in
      let same : seen ≡ event_for (terms_of n w) (phaser_past n w) (Look t a) = ap (λ (z : Story). Looked t a (look_of z.terms.ops a (waits t z.past) z.past)) (st.phasers n).story in
      let replied : phaser.reply y (look t a) ≡ done (event_for (terms_of n w) (phaser_past n w) (Look t a)) = ok.1 ∙ ap (λ e. done e) same in
      let accepted : is_made (reply s.limits w (Phaser n (Look t a))) ≡ true = ap (λ r. is_made r) (sym (look_answers s w n t a st)) ∙ made in
      let idle : is_idle_plan k.plan ≡ true = (and_parts (k.is_born && not k.is_ended) (is_idle_plan k.plan) may.0).1 in
      rw (free, replied) (step_stands s w n (Look t a) tt st t (counted k) refl (look_within s n t a _ replied) (ready_within s.tasks t may.0) accepted
      (act_line s.outers w n t (Look t a) k tt refl refl (eq-eqb t t refl) refl idle few (st.tasks t)));
}
