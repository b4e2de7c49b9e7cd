-- The beginning of any act: the answer is the history's, and the world stands for what follows. A spawn changes the line of its child too.
use Rattle.std.proofs.Common.{◌≡◌, ℕ, ◌+◌, ◌<◌, ◌==◌, Bool, true, false, ◌||◌, not, nat_lt, min, cond, List, [], ◌∷◌, ◌++◌, map, Option, Some, None, length, get_or, set, refl, sym, ap, subst, ◌∙◌, arith, inl, inr}
use Rattle.std.specs.Prelude.{slice_index_or}
use Rattle.std.proofs.lemmas.Bool.{cases_Bool, and_from, eq-eqb, eqb-true, ltb-true, true≢false}
use Rattle.std.proofs.lemmas.List.{length-set}
use Rattle.std.proofs.lemmas.List.Sums.{sum_by-cons}
use Rattle.phase_modes.specs.Lists.{is_empty}
use Rattle.phase_modes.specs.declared.phased.Pair.{Pair}
use Rattle.phase_modes.specs.declared.refusal.Refusal.{Refusal}
use Rattle.phase_modes.specs.declared.refusal.Refusal.TheVariants.{ActsFull, TasksFull, NotNow}
use Rattle.phase_modes.specs.Refusal.{first_refusal}
use Rattle.finish_core.specs.declared.event.FinishEvent.TheVariants.{Spawned}
use Rattle.world_model.specs.declared.event.Step.TheVariants.{Reg}
use Rattle.world_model.specs.declared.event.Begun.{Begun}
use Rattle.world_model.specs.declared.event.Begun.TheVariants.{Async, Signal, Wait, Next, NextSingle, Shut, End}
use Rattle.world_model.specs.declared.event.Tried.TheVariants.{Begun as Beginning}
use Rattle.world_model.specs.declared.event.WorldEvent.{WorldEvent}
use Rattle.world_model.specs.declared.event.WorldEvent.TheVariants.{Phaser, Finish, Begin}
use Rattle.world_model.specs.Tasks.{is_born, acts}
use Rattle.world_model.specs.Numbers.{is_named}
use Rattle.world_model.specs.Scopes.{open_finishes, inner}
use Rattle.world_model.specs.Due.{due, is_idle}
use Rattle.world_model.specs.Clock.{clock}
use Rattle.world_model.specs.ActConditions.{is_counted, pair_conditions, begin_conditions}
use Rattle.world_model.specs.Replies.{is_accepted, is_legal_world, is_made, reply}
use Rattle.world_model.proofs.BornWhereNamed.{born_named}
use Rattle.world_model.proofs.PassesInTurns.{idle_is_born}
use Rattle.world_model.proofs.OthersLeave.{due_other, last_other, clock_other}
use Rattle.world_records.specs.declared.plan.Plan.{Plan}
use Rattle.world_records.specs.declared.plan.Plan.TheVariants as plan
use Rattle.world_records.specs.TaskState.{TaskState}
use Rattle.world_records.specs.WorldState.{WorldState}
use Rattle.world_records.specs.Kept.{blank_task, task_at, is_ready}
use Rattle.world_records.proofs.LimitsStay.{limits_unless, entered_limits}
use Rattle.world_records.specs.StandsFor.{TaskStands, StandsFor, IsStep, due_by, inner_of}
use Rattle.world_records.specs.inner.Steps.{done_unless, unless_refused}
use Rattle.world_records.specs.inner.Facts.{facts}
use Rattle.world_records.specs.inner.Begins.{is_child_named, begin_refusal, spawn_begun, named_for, line_begun, entered, begin_answer, begin_state}
use Rattle.world_records.proofs.Fits.{fitting}
use Rattle.world_records.proofs.TableReads.{read_set}
use Rattle.world_records.proofs.Ready.{ready_is_idle, ready_within}
use Rattle.world_records.proofs.Standing.{entry_stands}
use Rattle.world_records.proofs.BeginsAsked.{begin_answers}
use Rattle.world_records.proofs.Begins.{line_stands}

-- what isn't refused is made by a ready task that may act once more, and the number that it gives is free
record IsFree (ready used few : Bool) (rest : List (Refusal × Bool)) : Type 0 where
  is_ready : ready ≡ true
  is_new : used ≡ false
  has_acts : few ≡ true
  others : first_refusal rest ≡ None

free_parts : (a u c : Bool) (xs : List (Refusal × Bool)) → first_refusal ((NotNow, a) ∷ (NotNow, not u) ∷ (ActsFull, c) ∷ xs) ≡ None → IsFree a u c xs
free_parts true false true xs e = record { is_ready = refl; is_new = refl; has_acts = refl; others = e }
free_parts true false false xs e = absurd cc
free_parts true true c xs e = absurd cc
free_parts false u c xs e = absurd cc

made_is_free : (o : Option Refusal) → is_made (done_unless o) ≡ true → o ≡ None
made_is_free None e = refl
made_is_free (Some r) e = absurd cc

begin_unchanged : (o : Option Refusal) (s new : WorldState) → is_made (done_unless o) ≡ false → unless_refused o s new ≡ s
begin_unchanged None s new e = absurd cc
begin_unchanged (Some r) s new e = refl

few_by : (c few : Bool) → (not c || few) ≡ true → c ≡ true → few ≡ true
few_by true few e k = e
few_by false few e k = absurd cc

-- a number below the limit of tasks has a line
first_met : (b : Bool) (r : Refusal) (cs : List (Refusal × Bool)) → first_refusal ((r, b) ∷ cs) ≡ None → b ≡ true
first_met true r cs e = refl
first_met false r cs e = absurd cc

named_is_other : (n m : ℕ) → (n == m) ≡ false → (m == n) ≡ false
named_is_other n m h = grind arith

module _ (s : WorldState) (w : List WorldEvent) (t c : ℕ) (ps : List Pair) (st : StandsFor w s) where
  abbrev spawn : WorldEvent
  spawn = Begin t (Async c ps)

  -- the spawner's line
  own_line : (task_at s t).acts < 65536 → (c == t) ≡ false → TaskStands s.outers (spawn ∷ w) t (spawn_begun c ps (task_at s t))
  own_line few apart =
      let k = task_at s t in
      let line = st.tasks t in
      let entered_now : due t (spawn ∷ w) ≡ map (λ p. Phaser p.phaser (Reg t c p.mode)) ps ++ Finish (inner t w) (Spawned c) ∷ [] = rw (eq-eqb t t refl) refl in
      let where_born : inner t w ≡ inner_of k (open_finishes t w) = ap (λ d. unless_open (open_finishes t w) d) (sym line.home) in
      let due_is : due t (spawn ∷ w) ≡ map (λ p. Phaser p.phaser (Reg t c p.mode)) ps ++ Finish (inner_of k (open_finishes t w)) (Spawned c) ∷ [] =
      entered_now ∙ ap (λ f. map (λ p. Phaser p.phaser (Reg t c p.mode)) ps ++ Finish f (Spawned c) ∷ []) where_born
      in
      let sum : acts t (spawn ∷ w) ≡ cond (t == t) 1 0 + acts t w = sum_by-cons _ spawn w in
      let one_more : acts t (spawn ∷ w) ≡ 1 + acts t w = sum ∙ ap (λ b. cond b 1 0 + acts t w) (eq-eqb t t refl) in
      let still : clock t (spawn ∷ w) ≡ clock t w = rw (eq-eqb t t refl) refl in
      record {
        due_is = due_is;
        idle = sym (ap (λ ds. is_empty ds) entered_now ∙ some (map (λ p. Phaser p.phaser (Reg t c p.mode)) ps) (Finish (inner t w) (Spawned c)));
        plan = rw (eq-eqb t t refl) (eq-eqb c c refl);
        left = refl;
        chain = line.chain;
        phasers = line.phasers;
        clock = line.clock ∙ ap (λ x. min x 4294967295) (sym still);
        acts = omega (arith, one_more, line.acts, few);
        home = line.home;
        spawner = rw apart line.spawner;
        named = rw apart line.named;
        born = line.born;
        ended = line.ended;
        refused = line.refused;
      }
    where
      some : (xs : List WorldEvent) (e : WorldEvent) → is_empty (xs ++ e ∷ []) ≡ false
      some [] e = refl
      some (x ∷ xs) e = refl

      unless_open : List ℕ → ℕ → ℕ
      unless_open fs d = slice_index_or fs 0 d

  -- the line of any other task: only the child's changes
  other_line : (u : ℕ) → (t == u) ≡ false → (c == u) ≡ false → TaskStands s.outers (spawn ∷ w) u (task_at s u)
  other_line u other apart =
      let line = st.tasks u in
      record {
        due_is = due_other u spawn w other ∙ line.due_is;
        idle = line.idle ∙ ap (λ ds. is_empty ds) (sym (due_other u spawn w other));
        plan = rw (last_other u spawn w other) line.plan;
        left = line.left;
        chain = line.chain;
        phasers = line.phasers;
        clock = line.clock ∙ ap (λ x. min x 4294967295) (sym (clock_other u spawn w other refl));
        acts = rw other line.acts;
        home = line.home;
        spawner = rw apart line.spawner;
        named = rw apart line.named;
        born = line.born;
        ended = line.ended;
        refused = line.refused;
      }

  child_line : (t == c) ≡ false → TaskStands s.outers (spawn ∷ w) c (named_for t (task_at s c))
  child_line other =
      let line = st.tasks c in
      record {
        due_is = due_other c spawn w other ∙ (line.due_is ∙ same_due c (task_at s c));
        idle = line.idle ∙ ap (λ ds. is_empty ds) (sym (due_other c spawn w other));
        plan = rw (last_other c spawn w other) line.plan;
        left = line.left;
        chain = line.chain;
        phasers = line.phasers;
        clock = line.clock ∙ ap (λ x. min x 4294967295) (sym (clock_other c spawn w other refl));
        acts = rw other line.acts;
        home = line.home;
        spawner = rw (eq-eqb c c refl) refl;
        named = rw (eq-eqb c c refl) (sym (any_way (c == 0)));
        born = line.born;
        ended = line.ended;
        refused = line.refused;
      }
    where
      any_way : (b : Bool) → (b || true) ≡ true
      any_way true = refl
      any_way false = refl

      same_due : (u : ℕ) (k : TaskState) → due_by u k (open_finishes u w) k.plan ≡ due_by u (named_for t k) (open_finishes u w) k.plan
      same_due u k = by k.plan
        where
          by : (p : Plan) → due_by u k (open_finishes u w) p ≡ due_by u (named_for t k) (open_finishes u w) p
          by plan.Idle = refl
          by (plan.Signalling x turn) = refl
          by plan.Turning = refl
          by (plan.Spawning d qs made) = refl
          by plan.Shutting = refl
          by (plan.Ending d) = refl

  spawn_stands : is_ready (task_at s t) ≡ true → (task_at s c).is_named ≡ false → (task_at s t).acts < 65536 → c < length s.tasks → is_accepted s.limits w spawn ≡ true
      → StandsFor (spawn ∷ w) (entered s t (Async c ps))
  spawn_stands ready new few inside accepted =
      let k = task_at s t in
      let own = spawn_begun c ps k in
      let child = named_for t (task_at s c) in
      let in_tasks : t < length s.tasks = ready_within s.tasks t ready in
      let idle : is_idle t w ≡ true = sym (ready_is_idle s.outers w t k (st.tasks t)) ∙ ready in
      let born : is_born t w ≡ true = idle_is_born t w idle in
      let apart : (c == t) ≡ false = differ (c == t) refl born in
      let other : (t == c) ≡ false = named_is_other c t apart in
      let in_set : c < length (set s.tasks t own) = omega (arith, inside, length-set s.tasks t own) in
      let same : get_or (set s.tasks t own) c blank_task ≡ task_at s c = read_set s.tasks t c own blank_task in_tasks ∙ ap (λ b. cond b own (task_at s c)) other in
      let lines : (u : ℕ) → get_or (set (set s.tasks t own) c (named_for t (get_or (set s.tasks t own) c blank_task))) u blank_task ≡ cond (c == u) child (cond (t == u) own (task_at s u)) =
      λ u.
      ap (λ x. get_or (set (set s.tasks t own) c (named_for t x)) u blank_task) same
      ∙ (read_set (set s.tasks t own) c u child blank_task in_set ∙ ap (λ x. cond (c == u) child x) (read_set s.tasks t u own blank_task in_tasks))
      in
      let rest : (u : ℕ) → (c == u) ≡ false → TaskStands s.outers (spawn ∷ w) u (cond (t == u) own (task_at s u)) =
      λ u away. elim (cases_Bool (t == u)) [
        | inl e ↦ rw e (subst (λ v. TaskStands s.outers (spawn ∷ w) v own) (eqb-true t u e) (own_line few apart))
        | inr e ↦ rw e (other_line u e away)
      ]
      in
      let all : (u : ℕ) → TaskStands s.outers (spawn ∷ w) u (cond (c == u) child (cond (t == u) own (task_at s u))) =
      λ u. elim (cases_Bool (c == u)) [
        | inl e ↦ rw e (subst (λ v. TaskStands s.outers (spawn ∷ w) v child) (eqb-true c u e) (child_line other))
        | inr e ↦ rw e (rest u e)
      ]
      in
      record {
        fit = st.fit;
        finishes_size = st.finishes_size;
        owners_size = st.owners_size;
        outers_size = st.outers_size;
        legal = and_from (is_accepted s.limits w spawn) (is_legal_world s.limits w) accepted st.legal;
        phasers = λ n. record { story = (st.phasers n).story; enclosing = (st.phasers n).enclosing };
        finishes = λ f. record { story = (st.finishes f).story; owner = (st.finishes f).owner };
        tasks = λ u. subst (λ line. TaskStands s.outers (spawn ∷ w) u line) (sym (lines u)) (all u);
      }
    where
      -- a task that was born was named, so it isn't its own child
      differ : (b : Bool) → (c == t) ≡ b → is_born t w ≡ true → b ≡ false
      differ false e h = refl
      differ true e h =
          absurd (true≢false (sym (subst (λ v. is_named v w ≡ true) (sym (eqb-true c t e)) (born_named s.limits t w st.legal h)) ∙ (sym (st.tasks c).named ∙ new)))

-- the world once an act is begun that was not refused
entered_stands : (s : WorldState) (w : List WorldEvent) (t : ℕ) (b : Begun) → length s.tasks ≡ s.limits.tasks → StandsFor w s → is_ready (task_at s t) ≡ true → is_child_named s b ≡ false
    → (is_counted (Beginning b) ≡ true → (task_at s t).acts < 65536) → first_refusal (begin_conditions s.limits (facts s t) b) ≡ None → is_accepted s.limits w (Begin t b) ≡ true
    → StandsFor (Begin t b ∷ w) (entered s t b)
entered_stands s w t (Async c ps) size st ready new few met accepted =
    let below : c < s.limits.tasks = ltb-true c s.limits.tasks (first_met (nat_lt c s.limits.tasks) TasksFull (pair_conditions (facts s t) [] ps) met) in
    spawn_stands s w t c ps st ready new (few refl) (omega (arith, below, size)) accepted
entered_stands s w t Signal size st ready new few met accepted = entry_stands s w t (line_begun s t Signal) Signal tt st (ready_within s.tasks t ready) accepted (line_stands s w t Signal tt st few)
entered_stands s w t Wait size st ready new few met accepted = entry_stands s w t (line_begun s t Wait) Wait tt st (ready_within s.tasks t ready) accepted (line_stands s w t Wait tt st few)
entered_stands s w t Next size st ready new few met accepted = entry_stands s w t (line_begun s t Next) Next tt st (ready_within s.tasks t ready) accepted (line_stands s w t Next tt st few)
entered_stands s w t (NextSingle x) size st ready new few met accepted =
    entry_stands s w t (line_begun s t (NextSingle x)) (NextSingle x) tt st (ready_within s.tasks t ready) accepted (line_stands s w t (NextSingle x) tt st few)
entered_stands s w t Shut size st ready new few met accepted = entry_stands s w t (line_begun s t Shut) Shut tt st (ready_within s.tasks t ready) accepted (line_stands s w t Shut tt st few)
entered_stands s w t End size st ready new few met accepted = entry_stands s w t (line_begun s t End) End tt st (ready_within s.tasks t ready) accepted (line_stands s w t End tt st few)

pub begin_is_step : (s : WorldState) (t : ℕ) (b : Begun) → length s.tasks ≡ s.limits.tasks → IsStep (Begin t b) s (begin_state s t b) (begin_answer s t b)
begin_is_step s t b size = record {
  unchanged = begin_unchanged (begin_refusal s t b) s (entered s t b);
  limits = limits_unless (begin_refusal s t b) s (entered s t b) (entered_limits s t b);
  answer = λ w st. begin_answers s w t b st;
  stands = λ w st made.
      let k = task_at s t in
      let free : begin_refusal s t b ≡ None = made_is_free (begin_refusal s t b) made in
      let may = free_parts (is_ready k) (is_child_named s b) (not (is_counted (Beginning b)) || nat_lt k.acts s.limits.acts) (begin_conditions s.limits (facts s t) b) free in
      let accepted : is_made (reply s.limits w (Begin t b)) ≡ true = ap (λ r. is_made r) (sym (begin_answers s w t b st)) ∙ made in
      let few : is_counted (Beginning b) ≡ true → k.acts < 65536 =
      (λ many.
      let below : k.acts < s.limits.acts = ltb-true k.acts s.limits.acts (few_by (is_counted (Beginning b)) (nat_lt k.acts s.limits.acts) may.has_acts many) in
      let most = (fitting s.limits st.fit).acts in
      omega (arith, below, most))
      in
      rw free (entered_stands s w t b size st may.is_ready may.is_new few may.others accepted);
}
