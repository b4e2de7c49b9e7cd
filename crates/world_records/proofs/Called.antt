-- A call that a phaser has done: the phasers stand after it, and so does the world where the acting task's line does.
use Rattle.std.proofs.Common.{◌≡◌, ℕ, ◌<◌, ◌==◌, Bool, true, false, cond, List, ◌∷◌, length, set, refl, sym, ap, subst, ◌∙◌, inl, inr}
use Rattle.std.proofs.lemmas.Bool.{and_from, cases_Bool, eqb-true}
use Rattle.phase_model.specs.Rules.{with_event}
use Rattle.world_model.specs.declared.event.Step.{Step}
use Rattle.world_model.specs.declared.event.Step.TheVariants.{Make, Reg, Sig, Claim, Did, Pass, Send, Look, Drop}
use Rattle.world_model.specs.declared.event.WorldEvent.{WorldEvent}
use Rattle.world_model.specs.declared.event.WorldEvent.TheVariants.{Phaser}
use Rattle.world_records.specs.TaskState.{TaskState}
use Rattle.world_records.specs.WorldState.{WorldState}
use Rattle.world_records.specs.Kept.{blank_task, blank_story, task_at, story_at}
use Rattle.world_records.specs.inner.Steps.{with_task}
use Rattle.world_model.specs.Parts.{terms_of, phaser_past, event_for, story_of}
use Rattle.world_model.specs.Scopes.{enclosing}
use Rattle.world_model.specs.Actors.{actor}
use Rattle.world_model.specs.Replies.{is_accepted, is_legal_world}
use Rattle.world_records.specs.StandsFor.{TaskStands, StandsFor}
use Rattle.world_records.proofs.TableReads.{read_set}
use Rattle.world_records.proofs.Quiet.{IsQuiet, other_step}

terms_same : (n m : ℕ) (s : Step) (w : List WorldEvent) → IsQuiet s → terms_of m (Phaser n s ∷ w) ≡ terms_of m w
terms_same n m (Make t x o) w q = absurd q
terms_same n m (Reg p t x) w q = absurd q
terms_same n m (Drop t) w q = absurd q
terms_same n m (Sig t x) w q = refl
terms_same n m (Claim t) w q = refl
terms_same n m (Did t) w q = refl
terms_same n m (Pass t) w q = refl
terms_same n m (Send t a v) w q = refl
terms_same n m (Look t a) w q = refl

enclosing_same : (n m : ℕ) (s : Step) (w : List WorldEvent) → IsQuiet s → enclosing m (Phaser n s ∷ w) ≡ enclosing m w
enclosing_same n m (Make t x o) w q = absurd q
enclosing_same n m (Reg p t x) w q = absurd q
enclosing_same n m (Drop t) w q = absurd q
enclosing_same n m (Sig t x) w q = refl
enclosing_same n m (Claim t) w q = refl
enclosing_same n m (Did t) w q = refl
enclosing_same n m (Pass t) w q = refl
enclosing_same n m (Send t a v) w q = refl
enclosing_same n m (Look t a) w q = refl

-- the state after a step that phaser n has done, where the acting task's line is k
abbrev pub stepped : WorldState → List WorldEvent → ℕ → Step → ℕ → TaskState → WorldState
stepped s w n x t k = with_task (record s { phasers = set s.phasers n (with_event (story_at s n) (event_for (terms_of n w) (phaser_past n w) x)) }) t k

module _ (s : WorldState) (w : List WorldEvent) (n : ℕ) (x : Step) (q : IsQuiet x) (st : StandsFor w s) where
  -- the stories after it
  story_by : (m : ℕ) (b : Bool) → (n == m) ≡ b
      → cond b (with_event (story_at s n) (event_for (terms_of n w) (phaser_past n w) x)) (story_at s m) ≡ story_of s.limits m (Phaser n x ∷ w)
  story_by m true e =
      let same : n ≡ m = eqb-true n m e in
      rw (terms_same n m x w q, e) (subst (λ v. with_event (story_at s n) (event_for (terms_of n w) (phaser_past n w) x) ≡ record { limits = s.limits; terms = terms_of v w; past = event_for (terms_of v w) (phaser_past v w) x ∷ phaser_past v w }) same
      (ap (λ y. with_event y (event_for (terms_of n w) (phaser_past n w) x)) (st.phasers n).story))
  story_by m false e = rw (terms_same n m x w q, e) (st.phasers m).story

  lines_by : (t u : ℕ) (new old : TaskState) → actor w (Phaser n x) ≡ t → TaskStands s.outers (Phaser n x ∷ w) t new → TaskStands s.outers w u old
      → TaskStands s.outers (Phaser n x ∷ w) u (cond (t == u) new old)
  lines_by t u new old by own other =
      elim (cases_Bool (t == u)) [
        | inl e ↦ rw e (subst (λ v. TaskStands s.outers (Phaser n x ∷ w) v new) (eqb-true t u e) own)
        | inr e ↦ rw e (other_step s.outers w u n old x q (ap (λ v. v == u) by ∙ e) other)
      ]

  pub step_stands : (t : ℕ) (k : TaskState) → actor w (Phaser n x) ≡ t → n < length s.phasers → t < length s.tasks
      → is_accepted s.limits w (Phaser n x) ≡ true → TaskStands s.outers (Phaser n x ∷ w) t k → StandsFor (Phaser n x ∷ w) (stepped s w n x t k)
  step_stands t k by within within_tasks accepted own = record {
    fit = st.fit;
    finishes_size = st.finishes_size;
    owners_size = st.owners_size;
    outers_size = st.outers_size;
    legal = and_from (is_accepted s.limits w (Phaser n x)) (is_legal_world s.limits w) accepted st.legal;
    phasers = λ m. record {
      story = read_set s.phasers n m (with_event (story_at s n) (event_for (terms_of n w) (phaser_past n w) x)) (blank_story s.limits) within ∙ story_by m (n == m) refl;
      enclosing = (st.phasers m).enclosing ∙ sym (enclosing_same n m x w q);
    };
    finishes = λ f. record { story = (st.finishes f).story; owner = (st.finishes f).owner };
    tasks = λ u.
        subst (λ line. TaskStands s.outers (Phaser n x ∷ w) u line) (sym (read_set s.tasks t u k blank_task within_tasks))
        (lines_by t u k (task_at s u) by own (st.tasks u));
  }
