-- A task that notes why it gives up: where its own line stands, the world does. Nothing else changes.
use Rattle.std.proofs.Common.{◌≡◌, ℕ, ◌<◌, ◌==◌, true, false, min, cond, List, [], ◌∷◌, ◌++◌, map, Option, length, refl, sym, ap, subst, ◌∙◌, inl, inr}
use Rattle.std.proofs.lemmas.Bool.{and_from, cases_Bool, eq-eqb, eqb-true}
use Rattle.phase_modes.specs.Lists.{is_empty}
use Rattle.world_model.specs.declared.event.Tried.{Tried}
use Rattle.world_model.specs.declared.event.Step.TheVariants.{Drop}
use Rattle.world_model.specs.declared.event.WorldEvent.{WorldEvent}
use Rattle.world_model.specs.declared.event.WorldEvent.TheVariants.{Phaser, Refuse, Fail}
use Rattle.world_model.specs.Scopes.{open_finishes}
use Rattle.world_model.specs.Due.{due, ending, fixed}
use Rattle.world_model.specs.Replies.{is_accepted, is_legal_world}
use Rattle.world_model.proofs.OthersLeave.{due_other, last_other, clock_other}
use Rattle.world_records.specs.declared.plan.Plan.TheVariants as plan
use Rattle.world_records.specs.TaskState.{TaskState}
use Rattle.world_records.specs.WorldState.{WorldState}
use Rattle.world_records.specs.Kept.{blank_task, task_at}
use Rattle.world_records.specs.StandsFor.{TaskStands, StandsFor, due_by}
use Rattle.world_records.specs.inner.Steps.{with_task}
use Rattle.world_records.specs.inner.Refusals.{given_up}
use Rattle.world_records.specs.inner.Failures.{spawn_given_up}
use Rattle.world_records.proofs.TableReads.{read_set}
use Rattle.world_records.proofs.Begins.{ending_is, ending_some}

full_after : (xs ys : List WorldEvent) → is_empty ys ≡ false → is_empty (xs ++ ys) ≡ false
full_after [] ys e = e
full_after (x ∷ xs) ys e = refl

-- a refusal
refused_line : (outers : List (Option ℕ)) (w : List WorldEvent) (t n : ℕ) (a : Tried) (k : TaskState) → TaskStands outers w t k → TaskStands outers (Refuse t a n ∷ w) t (given_up t n k)
refused_line outers w t n a k st =
    let entered : due t (Refuse t a n ∷ w) ≡ ending t w = rw (eq-eqb t t refl) refl in
    let due_is : due t (Refuse t a n ∷ w) ≡ due_by t (given_up t n k) (open_finishes t w) (given_up t n k).plan = entered ∙ ending_is outers w t k st in
    record {
      due_is = due_is;
      idle = sym (ending_some t k k.phasers (open_finishes t w)) ∙ ap (λ ds. is_empty ds) (sym due_is);
      plan = rw (eq-eqb t t refl) refl;
      left = refl;
      chain = st.chain;
      phasers = st.phasers;
      clock = st.clock;
      acts = st.acts;
      home = st.home;
      spawner = st.spawner;
      named = st.named;
      born = st.born;
      ended = st.ended;
      refused = rw (eq-eqb t t refl) refl;
    }

other_refused : (outers : List (Option ℕ)) (w : List WorldEvent) (t u n : ℕ) (a : Tried) (k : TaskState) → (t == u) ≡ false → TaskStands outers w u k → TaskStands outers (Refuse t a n ∷ w) u k
other_refused outers w t u n a k other st = record {
  due_is = due_other u (Refuse t a n) w other ∙ st.due_is;
  idle = st.idle ∙ ap (λ ds. is_empty ds) (sym (due_other u (Refuse t a n) w other));
  plan = rw (last_other u (Refuse t a n) w other) st.plan;
  left = st.left;
  chain = st.chain;
  phasers = st.phasers;
  clock = st.clock ∙ ap (λ c. min c 4294967295) (sym (clock_other u (Refuse t a n) w other refl));
  acts = st.acts;
  home = st.home;
  spawner = st.spawner;
  named = st.named;
  born = st.born;
  ended = st.ended;
  refused = rw other st.refused;
}

pub refuse_stands : (s : WorldState) (w : List WorldEvent) (t n : ℕ) (a : Tried) → StandsFor w s → t < length s.tasks → is_accepted s.limits w (Refuse t a n) ≡ true
    → StandsFor (Refuse t a n ∷ w) (with_task s t (given_up t n (task_at s t)))
refuse_stands s w t n a st within accepted = record {
  fit = st.fit;
  finishes_size = st.finishes_size;
  owners_size = st.owners_size;
  outers_size = st.outers_size;
  legal = and_from (is_accepted s.limits w (Refuse t a n)) (is_legal_world s.limits w) accepted st.legal;
  phasers = λ m. record { story = (st.phasers m).story; enclosing = (st.phasers m).enclosing };
  finishes = λ f. record { story = (st.finishes f).story; owner = (st.finishes f).owner };
  tasks = λ u. subst (λ line. TaskStands s.outers (Refuse t a n ∷ w) u line) (sym (read_set s.tasks t u new blank_task within)) (lines_by u);
}
  where
    new : TaskState
    new = given_up t n (task_at s t)

    lines_by : (u : ℕ) → TaskStands s.outers (Refuse t a n ∷ w) u (cond (t == u) new (task_at s u))
    lines_by u =
        elim (cases_Bool (t == u)) [
          | inl e ↦ rw e (subst (λ v. TaskStands s.outers (Refuse t a n ∷ w) v new) (eqb-true t u e) (refused_line s.outers w t n a (task_at s t) (st.tasks t)))
          | inr e ↦ rw e (other_refused s.outers w t u n a (task_at s u) e (st.tasks u))
        ]

-- a failure, after which this child is to be dropped from these phasers
failed_line : (outers : List (Option ℕ)) (w : List WorldEvent) (t n c : ℕ) (left : List ℕ) (k : TaskState) → fixed (Fail t n) w ≡ map (λ m. Phaser m (Drop c)) left ++ ending t w
    → TaskStands outers w t k → TaskStands outers (Fail t n ∷ w) t (spawn_given_up c left n k)
failed_line outers w t n c left k is st =
    let new = spawn_given_up c left n k in
    let drops = map (λ m. Phaser m (Drop c)) left in
    let entered : due t (Fail t n ∷ w) ≡ fixed (Fail t n) w = rw (eq-eqb t t refl) refl in
    let due_is : due t (Fail t n ∷ w) ≡ due_by t new (open_finishes t w) (plan.Ending c) = entered ∙ (is ∙ ap (λ xs. drops ++ xs) (ending_is outers w t k st)) in
    record {
      due_is = due_is;
      idle = sym (full_after drops _ (ending_some t k k.phasers (open_finishes t w))) ∙ ap (λ ds. is_empty ds) (sym due_is);
      plan = rw (eq-eqb t t refl) refl;
      left = refl;
      chain = st.chain;
      phasers = st.phasers;
      clock = st.clock;
      acts = st.acts;
      home = st.home;
      spawner = st.spawner;
      named = st.named;
      born = st.born;
      ended = st.ended;
      refused = rw (eq-eqb t t refl) refl;
    }

other_failed : (outers : List (Option ℕ)) (w : List WorldEvent) (t u n : ℕ) (k : TaskState) → (t == u) ≡ false → TaskStands outers w u k → TaskStands outers (Fail t n ∷ w) u k
other_failed outers w t u n k other st = record {
  due_is = due_other u (Fail t n) w other ∙ st.due_is;
  idle = st.idle ∙ ap (λ ds. is_empty ds) (sym (due_other u (Fail t n) w other));
  plan = rw (last_other u (Fail t n) w other) st.plan;
  left = st.left;
  chain = st.chain;
  phasers = st.phasers;
  clock = st.clock ∙ ap (λ c. min c 4294967295) (sym (clock_other u (Fail t n) w other refl));
  acts = st.acts;
  home = st.home;
  spawner = st.spawner;
  named = st.named;
  born = st.born;
  ended = st.ended;
  refused = rw other st.refused;
}

pub fail_stands : (s : WorldState) (w : List WorldEvent) (t n c : ℕ) (left : List ℕ) → fixed (Fail t n) w ≡ map (λ m. Phaser m (Drop c)) left ++ ending t w
    → StandsFor w s → t < length s.tasks → is_accepted s.limits w (Fail t n) ≡ true → StandsFor (Fail t n ∷ w) (with_task s t (spawn_given_up c left n (task_at s t)))
fail_stands s w t n c left is st within accepted = record {
  fit = st.fit;
  finishes_size = st.finishes_size;
  owners_size = st.owners_size;
  outers_size = st.outers_size;
  legal = and_from (is_accepted s.limits w (Fail t n)) (is_legal_world s.limits w) accepted st.legal;
  phasers = λ m. record { story = (st.phasers m).story; enclosing = (st.phasers m).enclosing };
  finishes = λ f. record { story = (st.finishes f).story; owner = (st.finishes f).owner };
  tasks = λ u. subst (λ line. TaskStands s.outers (Fail t n ∷ w) u line) (sym (read_set s.tasks t u new blank_task within)) (lines_by u);
}
  where
    new : TaskState
    new = spawn_given_up c left n (task_at s t)

    lines_by : (u : ℕ) → TaskStands s.outers (Fail t n ∷ w) u (cond (t == u) new (task_at s u))
    lines_by u =
        elim (cases_Bool (t == u)) [
          | inl e ↦ rw e (subst (λ v. TaskStands s.outers (Fail t n ∷ w) v new) (eqb-true t u e) (failed_line s.outers w t n c left (task_at s t) is (st.tasks t)))
          | inr e ↦ rw e (other_failed s.outers w t u n (task_at s u) e (st.tasks u))
        ]
