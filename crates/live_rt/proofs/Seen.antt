-- What a task has seen, from one event of its to the next.
use Rattle.std.proofs.Common.{ℕ, ◌≡◌, ◌⊎◌, ◌==◌, Bool, true, false, if◌then◌else◌, inl, inr, List, [], ◌∷◌, Option, Some, None, refl, sym, ap, subst, ◌∙◌, append-nil}
use Rattle.std.specs.Prelude.{IfSome}
use Rattle.std.proofs.lemmas.Bool.{eqb-true, eq-eqb}
use Rattle.std.proofs.lemmas.Option.{same_Some}
use Rattle.phase_model.specs.Laws.{IsLegal}
use Rattle.phase_model.specs.Rules.{Story}
use Rattle.trace_model.specs.declared.event.TracedEvent.{TracedEvent}
use Rattle.told_history.specs.Stories.{GoesOn}
use Rattle.told_history.proofs.Goes.{goes_itself}
use Rattle.table_receipts.specs.Seen.{HasSeenMore}
use Rattle.task_standing.specs.Known.{Known}
use Rattle.tasks_in_flight.specs.Heard.{SeesMoreOf, SeesMoreBut}
use Rattle.tasks_in_flight.specs.inner.Ready.{SeesMore}
use Rattle.live_rt.specs.Said.{AreLegal}
use Rattle.live_rt.specs.inner.Places.{Spot, story_of, in_slot, IsFurther, HaveGoneOn}
use Rattle.live_rt.specs.inner.Says.{IsSeen, seen_as}

-- ---- one number has another value

abbrev pub put : {X : Type 0} → ℕ → X → (ℕ → X) → ℕ → X
put n x f m = if m == n then x else f m

pub put_here : {X : Type 0} (n : ℕ) (x : X) (f : ℕ → X) → put n x f n ≡ x
put_here n x f = ap (λ (b : Bool). if b then x else f n) (eq-eqb n n refl)

pub put_at : {X : Type 0} (n : ℕ) (x : X) (f : ℕ → X) (m : ℕ) → m == n ≡ true → put n x f m ≡ x
put_at n x f m same = ap (λ (b : Bool). if b then x else f m) same

pub put_other : {X : Type 0} (n : ℕ) (x : X) (f : ℕ → X) (m : ℕ) → m == n ≡ false → put n x f m ≡ f m
put_other n x f m other = ap (λ (b : Bool). if b then x else f m) other

-- ---- what there is

pub some_map : {X : Type 0} (P Q : X → Type 0) (o : Option X) → ((x : X) → P x → Q x) → IfSome o P → IfSome o Q
some_map P Q (Some x) f is = f x is
some_map P Q None f is = tt

pub both : {X : Type 0} (P Q : X → Type 0) (o : Option X) → IfSome o P → IfSome o Q → IfSome o (λ x. P x × Q x)
both P Q (Some x) is as_well = (is, as_well)
both P Q None is as_well = tt

-- where there is one, both are so of it
pub of_both : {X : Type 0} (P Q : X → Type 0) (S : Type 0) (o : Option X) → IfSome o (λ x. ∥ P x ∥₁ × ∥ (S → Q x) ∥₁)
    → ∥ IfSome o P ∥₁ × ∥ (S → IfSome o Q) ∥₁
of_both P Q S (Some x) is = is
of_both P Q S None is = (∣ tt ∣₁, ∣ (λ _. tt) ∣₁)

pub some_at : {X : Type 0} (P : X → Type 0) (o : Option X) (x : X) → o ≡ Some x → IfSome o P → P x
some_at P o x there is = subst (λ v. IfSome v P) there is

-- ---- a place of which more was seen

-- what there is of it in slot n, and that it stays elsewhere
pub record IsPut (p : Spot) (places places' : List Spot) : Type 0 where
  pub here : IfSome (in_slot p.at.slot places') (λ q. q ≡ p)
  pub others : (n : ℕ) → n == p.at.slot ≡ false → in_slot n places' ≡ in_slot n places

-- what is there is what was put
pub put_there : (p : Spot) (places places' : List Spot) → in_slot p.at.slot places' ≡ Some p
    → ((n : ℕ) → n == p.at.slot ≡ false → in_slot n places' ≡ in_slot n places) → IsPut p places places'
put_there p places places' there others = record { here = subst (λ o. IfSome o (λ q. q ≡ p)) (sym there) refl; others = others }

module _ (p : Spot) (places places' : List Spot) (is_put : IsPut p places places') where
  -- by slots: in that one it is the place, elsewhere what it was
  pub by_slot : (Q : ℕ → Spot → Type 0) → Q p.at.slot p
      → ((n : ℕ) → n == p.at.slot ≡ false → IfSome (in_slot n places) (Q n)) → (n : ℕ) → IfSome (in_slot n places') (Q n)
  by_slot Q here others n = by n (n == p.at.slot) refl
    where
      by : (m : ℕ) (b : Bool) → m == p.at.slot ≡ b → IfSome (in_slot m places') (Q m)
      by m true same =
          subst (λ (j : ℕ). IfSome (in_slot j places') (Q j)) (sym (eqb-true m p.at.slot same))
          (some_map (λ q. q ≡ p) (Q p.at.slot) (in_slot p.at.slot places') (λ q is. subst (Q p.at.slot) (sym is) here) is_put.here)
      by m false other = subst (λ o. IfSome o (Q m)) (sym (is_put.others m other)) (others m other)

  -- of each place no less is seen
  pub gone_on : IsFurther p places → HaveGoneOn places places'
  gone_on further = by_slot
      (λ n r. (q : Spot) × (in_slot n places ≡ Some q) × GoesOn (story_of q) (story_of r))
      (further.0, further.1, further.4)
      (λ n other. itself n (in_slot n places) refl)
    where
      itself : (n : ℕ) (o : Option Spot) → in_slot n places ≡ o
          → IfSome o (λ r. (q : Spot) × (in_slot n places ≡ Some q) × GoesOn (story_of q) (story_of r))
      itself n (Some r) is = (r, is, goes_itself (story_of r))
      itself n None is = tt

-- where nothing was put all stays
pub all_gone_on : (places : List Spot) → HaveGoneOn places places
all_gone_on places = λ n. itself n (in_slot n places) refl
  where
    itself : (n : ℕ) (o : Option Spot) → in_slot n places ≡ o
        → IfSome o (λ r. (q : Spot) × (in_slot n places ≡ Some q) × GoesOn (story_of q) (story_of r))
    itself n (Some r) is = (r, is, goes_itself (story_of r))
    itself n None is = tt

-- and where some were taken away
pub fewer_gone_on : (n : ℕ) (places places' : List Spot) → in_slot n places' ≡ None
    → ((m : ℕ) → m == n ≡ false → in_slot m places' ≡ in_slot m places) → HaveGoneOn places places'
fewer_gone_on n places places' gone others m = by m (m == n) refl
  where
    by : (j : ℕ) (b : Bool) → j == n ≡ b
        → IfSome (in_slot j places') (λ r. (q : Spot) × (in_slot j places ≡ Some q) × GoesOn (story_of q) (story_of r))
    by j true same =
        subst (λ o. IfSome o (λ r. (q : Spot) × (in_slot j places ≡ Some q) × GoesOn (story_of q) (story_of r)))
        (sym (ap (λ i. in_slot i places') (eqb-true j n same) ∙ gone)) tt
    by j false other =
        subst (λ o. IfSome o (λ r. (q : Spot) × (in_slot j places ≡ Some q) × GoesOn (story_of q) (story_of r)))
        (sym (others j other)) (all_gone_on places j)

-- ---- what was seen by places

module _ (places : List Spot) (own : ℕ → ℕ) (stories : ℕ → Story) (seen : IsSeen places own stories) where
  pub placed_at : (n : ℕ) (p : Spot) → in_slot n places ≡ Some p → (own n ≡ p.me) × (stories n ≡ story_of p)
  placed_at n p there = some_at (λ q. (own n ≡ q.me) × (stories n ≡ story_of q)) (in_slot n places) p there (seen.placed n)

  -- a story is in the place of another
  legal_put : (n : ℕ) (s : Story) → IsLegal s → AreLegal (put n s stories)
  legal_put n s legal = λ m. by m (m == n) refl
    where
      by : (m : ℕ) (b : Bool) → m == n ≡ b → IsLegal (put n s stories m)
      by m true same = subst (λ (v : Story). IsLegal v) (sym (put_at n s stories m same)) legal
      by m false other = subst (λ (v : Story). IsLegal v) (sym (put_other n s stories m other)) (seen.legal m)

  -- of one phaser more was seen
  pub seen_further : (p : Spot) (places' : List Spot) → IsPut p places places' → IsFurther p places → IsLegal (story_of p)
      → IsSeen places' own (put p.at.slot (story_of p) stories)
  seen_further p places' is_put further legal =
      let n = p.at.slot in
      let now = put n (story_of p) stories in record {
        placed = by_slot p places places' is_put (λ m q. (own m ≡ q.me) × (now m ≡ story_of q))
            ((placed_at n further.0 further.1).0 ∙ sym further.3, put_here n (story_of p) stories)
            (λ m other. some_map (λ q. (own m ≡ q.me) × (stories m ≡ story_of q)) (λ q. (own m ≡ q.me) × (now m ≡ story_of q))
            (in_slot m places) (λ q is. (is.0, put_other n (story_of p) stories m other ∙ is.1)) (seen.placed m));
        legal = legal_put n (story_of p) legal;
      }

  pub more_of : (p : Spot) → IsFurther p places → HasSeenMore p.at.slot stories (put p.at.slot (story_of p) stories)
  more_of p further = ((λ m. goes m (m == n) refl), λ m other. put_other n (story_of p) stories m other)
    where
      n : ℕ
      n = p.at.slot

      here : GoesOn (stories n) (story_of p)
      here = subst (λ (v : Story). GoesOn v (story_of p)) (sym (placed_at n further.0 further.1).1) further.4

      goes : (m : ℕ) (b : Bool) → m == n ≡ b → GoesOn (stories m) (put n (story_of p) stories m)
      goes m true same =
          subst (λ (v : Story). GoesOn (stories m) v) (sym (put_at n (story_of p) stories m same))
          (subst (λ (j : ℕ). GoesOn (stories j) (story_of p)) (sym (eqb-true m n same)) here)
      goes m false other =
          subst (λ (v : Story). GoesOn (stories m) v) (sym (put_other n (story_of p) stories m other)) (goes_itself (stories m))

  pub sees_further : (p : Spot) → IsFurther p places → (log : List TracedEvent) (k k' : Known)
      → SeesMore (seen_as own stories log k) (seen_as own (put p.at.slot (story_of p) stories) log k')
  sees_further p further log k k' =
      let more = more_of p further in
      ((λ m. inr (more.0 m, refl)), ([], sym (append-nil log)))

  -- one was made: the number is another phaser's now
  pub seen_made : (p : Spot) (places' : List Spot) → IsPut p places places' → IsLegal (story_of p)
      → IsSeen places' (put p.at.slot p.me own) (put p.at.slot (story_of p) stories)
  seen_made p places' is_put legal =
      let n = p.at.slot in
      let now = put n (story_of p) stories in
      let mine = put n p.me own in record {
        placed = by_slot p places places' is_put (λ m q. (mine m ≡ q.me) × (now m ≡ story_of q))
            (put_here n p.me own, put_here n (story_of p) stories)
            (λ m other. some_map (λ q. (own m ≡ q.me) × (stories m ≡ story_of q)) (λ q. (mine m ≡ q.me) × (now m ≡ story_of q))
            (in_slot m places) (λ q is. (put_other n p.me own m other ∙ is.0, put_other n (story_of p) stories m other ∙ is.1)) (seen.placed m));
        legal = legal_put n (story_of p) legal;
      }

  -- some places were taken away
  pub seen_fewer : (n : ℕ) (places' : List Spot) → in_slot n places' ≡ None
      → ((m : ℕ) → m == n ≡ false → in_slot m places' ≡ in_slot m places) → IsSeen places' own stories
  seen_fewer n places' gone others = record { placed = λ m. by m (m == n) refl; legal = seen.legal }
    where
      by : (j : ℕ) (b : Bool) → j == n ≡ b → IfSome (in_slot j places') (λ q. (own j ≡ q.me) × (stories j ≡ story_of q))
      by j true same =
          subst (λ o. IfSome o (λ q. (own j ≡ q.me) × (stories j ≡ story_of q)))
          (sym (ap (λ i. in_slot i places') (eqb-true j n same) ∙ gone)) tt
      by j false other =
          subst (λ o. IfSome o (λ q. (own j ≡ q.me) × (stories j ≡ story_of q))) (sym (others j other)) (seen.placed j)

-- of each phaser but the one that was made no less is seen
pub sees_made : (n me : ℕ) (s : Story) (own : ℕ → ℕ) (stories : ℕ → Story) (log : List TracedEvent) (k k' : Known)
    → SeesMoreBut (Some n) (seen_as own stories log k) (seen_as (put n me own) (put n s stories) log k')
sees_made n me s own stories log k k' = ((λ m. by m (m == n) refl), ([], sym (append-nil log)))
  where
    by : (m : ℕ) (b : Bool) → m == n ≡ b
        → (Some n ≡ Some m) ⊎ SeesMoreOf m (seen_as own stories log k) (seen_as (put n me own) (put n s stories) log k')
    by m true same = inl (ap (λ (j : ℕ). Some j) (sym (eqb-true m n same)))
    by m false other = inr (
      subst (λ (v : Story). GoesOn (stories m) v) (sym (put_other n s stories m other)) (goes_itself (stories m)),
      put_other n me own m other,
    )

-- what is found in a slot is in that slot
pub in_its_slot : (n : ℕ) (places : List Spot) (p : Spot) → in_slot n places ≡ Some p → p.at.slot ≡ n
in_its_slot n [] p there = absurd (cc there)
in_its_slot n (q ∷ places) p there = by (q.at.slot == n) refl (in_its_slot n places p)
  where
    by : (b : Bool) → q.at.slot == n ≡ b → (in_slot n places ≡ Some p → p.at.slot ≡ n) → p.at.slot ≡ n
    by true same rest =
        ap (λ r. r.at.slot) (same_Some _ _ (sym there ∙ ap (λ (b : Bool). if b then Some q else in_slot n places) same)) ∙ eqb-true q.at.slot n same
    by false other rest = rest (sym (ap (λ (b : Bool). if b then Some q else in_slot n places) other) ∙ there)
