-- The opening of a finish: the world stands for the history with just that event more.
use Rattle.std.proofs.Common.{◌≡◌, ℕ, ◌+◌, ◌<◌, ◌≤◌, ◌==◌, ◌⊎◌, true, false, nat_lt, min, cond, List, [], ◌∷◌, None, length, refl, sym, ap, subst, ◌∙◌, inl, inr, arith}
use Rattle.std.proofs.lemmas.Bool.{cases_Bool, and_from, eqb-true, eq-eqb, lt-ltb, true≢false, false_from_ne_true}
use Rattle.std.proofs.lemmas.List.Elements.{All-cons, All-weaker}
use Rattle.finish_core.specs.declared.event.FinishEvent.TheVariants.{Opened}
use Rattle.world_model.specs.declared.event.WorldEvent.{WorldEvent}
use Rattle.world_model.specs.declared.event.WorldEvent.TheVariants.{Finish}
use Rattle.world_model.specs.Numbers.{is_finish}
use Rattle.world_model.specs.Parts.{finish_past}
use Rattle.world_model.specs.Replies.{is_legal_world, is_accepted}
use Rattle.world_model.specs.Tasks.{acts}
use Rattle.world_model.proofs.OthersLeave.{due_other}
use Rattle.world_model.proofs.SmallWords.{eq_self}
use Rattle.task_standing.specs.Histories.{IsAbout}
use Rattle.task_standing.specs.Known.{Known}
use Rattle.task_standing.specs.Standing.{acted}
use Rattle.task_standing.proofs.Finishes.{openings_open}
use Rattle.live_world.specs.declared.at.FinishAt.{FinishAt}
use Rattle.live_world.specs.Live.{TaskLine, FinishLine, LiveState, live_limits, blank_task, blank_finish, task_at, finish_at, known_of, is_free}
use Rattle.live_world.specs.StandsFor.{IsIn, IsParked, TaskStands, FinishStands, StandsFor}
use Rattle.live_world.specs.inner.Steps.{opening, opened}
use Rattle.live_world.proofs.SlotReads.{read_set, read_put}
use Rattle.live_world.proofs.Others.{Goes, goes_of, goes_by_others, free_is_idle, free_is_idle_course, free_is_not_parked, no_history, open_is_finish, differ_by}

-- what the task writes of it
abbrev pub opening_line : LiveState → ℕ → TaskLine → TaskLine
opening_line s j k = record k { finishes = opening s j ∷ k.finishes; acts = k.acts + 1 }

abbrev pub new_finish : LiveState → FinishLine
new_finish s = record { number = s.next_finish; taken = true; alive = 0; waiter = None }

module _ (w : List WorldEvent) (s : LiveState) (i j : ℕ) (st : StandsFor w s) (there : (task_at s i).taken ≡ true)
    (free : is_free (task_at s i) ≡ true) (few : (task_at s i).acts < 4611686018427387904) (in_tasks : i < length s.tasks)
    (vacant : (finish_at s j).taken ≡ false) (in_finishes : j ≤ length s.finishes) (below : s.next_finish < 4611686018427387904) where
  abbrev t : ℕ
  t = (task_at s i).number

  abbrev f : ℕ
  f = s.next_finish

  abbrev e : WorldEvent
  e = Finish f (Opened t)

  own : Goes w (task_at s i)
  own = goes_of w s i (task_at s i) (st.tasks i there)

  new : is_finish f w ≡ false
  new = st.unopened f (omega arith)

  past : finish_past f w ≡ []
  past = no_history f w new

  acts_below : nat_lt (acts t w) 4611686018427387904 ≡ true
  acts_below = lt-ltb (acts t w) 4611686018427387904 (subst (λ n. n < 4611686018427387904) own.about.of.acts few)

  accepted : is_accepted live_limits w e ≡ true
  accepted = rw (free_is_idle w (task_at s i) free own, past, acts_below, lt-ltb f 4611686018427387904 below) refl

  legal : is_legal_world live_limits (e ∷ w) ≡ true
  legal = and_from (is_accepted live_limits w e) (is_legal_world live_limits w) accepted st.legal

  task_reads : (k : ℕ) → task_at (opened s i j) k ≡ cond (i == k) (opening_line s j (task_at s i)) (task_at s k)
  task_reads k = read_set s.tasks i k (opening_line s j (task_at s i)) blank_task in_tasks

  finish_reads : (k : ℕ) → finish_at (opened s i j) k ≡ cond (j == k) (new_finish s) (finish_at s k)
  finish_reads k = read_put s.finishes j k (new_finish s) blank_finish in_finishes

  -- a finish that was there is there
  finish_stays : (k : ℕ) → (finish_at s k).taken ≡ true → finish_at (opened s i j) k ≡ finish_at s k
  finish_stays k h = finish_reads k ∙ rw (differ_by (λ x. (finish_at s x).taken) j k vacant h) refl

  in_stays : (g : FinishAt) → IsIn s g → IsIn (opened s i j) g
  in_stays g h = rw (finish_stays g.slot h.0) h

  in_new : IsIn (opened s i j) (opening s j)
  in_new = rw (finish_reads j, eq_self j) (refl, refl)

  -- the task that opens it
  own_about : IsAbout (e ∷ w) (known_of (opening_line s j (task_at s i)))
  own_about =
      let k = known_of (task_at s i) in
      let one_more : min ((task_at s i).acts + 1) 18446744073709551615 ≡ (task_at s i).acts + 1 = omega (arith, few) in
      let is : record (acted k) { finishes = f ∷ k.finishes } ≡ known_of (opening_line s j (task_at s i)) =
      rw (free_is_idle_course (task_at s i) free, one_more) refl in
      subst (λ (x : Known). IsAbout (e ∷ w) x) is
      (openings_open live_limits w k f (omega arith) legal own.about)

  own_line : (k : ℕ) → TaskStands (e ∷ w) (opened s i j) k (opening_line s j (task_at s i))
  own_line k =
      let old = st.tasks i there in
      record {
        born = own.born;
        goes_on = own.goes_on;
        about = own_about;
        home = in_stays (task_at s i).home old.home;
        opened = All-cons (IsIn (opened s i j)) (opening s j) (task_at s i).finishes in_new
            (All-weaker (IsIn s) (IsIn (opened s i j)) in_stays (task_at s i).finishes old.opened);
        parked = λ h. absurd (true≢false (sym h ∙ free_is_not_parked (task_at s i) free));
      }

  -- another one
  not_own : (k : ℕ) → (task_at s k).taken ≡ true → (i == k) ≡ false → (t == (task_at s k).number) ≡ false
  not_own k taken other =
      false_from_ne_true (t == (task_at s k).number) (λ same. true≢false
      (sym (eq-eqb i k (st.tasks_apart i k there taken (eqb-true t (task_at s k).number same))) ∙ other))

  other_parked : (k : ℕ) (l : TaskLine) → (t == l.number) ≡ false → IsParked w s k l → IsParked (e ∷ w) (opened s i j) k l
  other_parked k l other p = record {
    at = p.at;
    rest = p.rest;
    due_is = due_other l.number e w other ∙ p.due_is;
    there = in_stays p.at p.there;
    going = rw (finish_stays p.at.slot p.there.0) p.going;
    waiter = rw (finish_stays p.at.slot p.there.0) p.waiter;
  }

  other_line : (k : ℕ) (l : TaskLine) → (t == l.number) ≡ false → TaskStands w s k l → TaskStands (e ∷ w) (opened s i j) k l
  other_line k l other old =
      let g = goes_by_others e w l legal other refl refl (goes_of w s k l old) in
      record {
        born = g.born;
        goes_on = g.goes_on;
        about = g.about;
        home = in_stays l.home old.home;
        opened = All-weaker (IsIn s) (IsIn (opened s i j)) in_stays l.finishes old.opened;
        parked = λ h. other_parked k l other (old.parked h);
      }

  tasks_stand : (k : ℕ) → (task_at (opened s i j) k).taken ≡ true → TaskStands (e ∷ w) (opened s i j) k (task_at (opened s i j) k)
  tasks_stand k taken =
      elim (cases_Bool (i == k)) [
        | inl y ↦
            let same : task_at (opened s i j) k ≡ opening_line s j (task_at s i) = task_reads k ∙ rw y refl in
            subst (λ (l : TaskLine). TaskStands (e ∷ w) (opened s i j) k l) (sym same) (own_line k)
        | inr y ↦
            let same : task_at (opened s i j) k ≡ task_at s k = task_reads k ∙ rw y refl in
            let there : (task_at s k).taken ≡ true = sym (ap (λ (l : TaskLine). l.taken) same) ∙ taken in
            subst (λ (l : TaskLine). TaskStands (e ∷ w) (opened s i j) k l) (sym same)
            (other_line k (task_at s k) (not_own k there y) (st.tasks k there))
      ]

  -- the numbers and the places of tasks stay
  task_stays : (k : ℕ) → ((task_at (opened s i j) k).taken ≡ (task_at s k).taken) × ((task_at (opened s i j) k).number ≡ (task_at s k).number)
  task_stays k =
      elim (cases_Bool (i == k)) [
        | inl y ↦
            let same : task_at (opened s i j) k ≡ opening_line s j (task_at s i) = task_reads k ∙ rw y refl in
            let is : i ≡ k = eqb-true i k y in (
              ap (λ (l : TaskLine). l.taken) same ∙ ap (λ x. (task_at s x).taken) is,
              ap (λ (l : TaskLine). l.number) same ∙ ap (λ x. (task_at s x).number) is,
            )
        | inr y ↦
            let same : task_at (opened s i j) k ≡ task_at s k = task_reads k ∙ rw y refl in
            (ap (λ (l : TaskLine). l.taken) same, ap (λ (l : TaskLine). l.number) same)
      ]

  -- the finishes
  other_number : (k : ℕ) → (finish_at s k).taken ≡ true → (f == (finish_at s k).number) ≡ false
  other_number k taken =
      differ_by (λ x. is_finish x w) f (finish_at s k).number new (open_is_finish (finish_at s k).number w (st.finishes k taken).is_open)

  finishes_stand : (k : ℕ) → (finish_at (opened s i j) k).taken ≡ true → FinishStands (e ∷ w) (finish_at (opened s i j) k)
  finishes_stand k taken =
      elim (cases_Bool (j == k)) [
        | inl y ↦
            let same : finish_at (opened s i j) k ≡ new_finish s = finish_reads k ∙ rw y refl in
            subst (λ (l : FinishLine). FinishStands (e ∷ w) l) (sym same)
            (record { is_open = rw (eq_self f, past) refl; alive = rw (eq_self f, past) refl })
        | inr y ↦
            let same : finish_at (opened s i j) k ≡ finish_at s k = finish_reads k ∙ rw y refl in
            let there : (finish_at s k).taken ≡ true = sym (ap (λ (l : FinishLine). l.taken) same) ∙ taken in
            let old = st.finishes k there in
            subst (λ (l : FinishLine). FinishStands (e ∷ w) l) (sym same)
            (record {
              is_open = rw (other_number k there) old.is_open;
              alive = rw (other_number k there) old.alive;
            })
      ]

  finish_is : (k : ℕ) → (finish_at (opened s i j) k).taken ≡ true
      → ((j == k) ≡ true) × ((finish_at (opened s i j) k).number ≡ f)
      ⊎ ((j == k) ≡ false) × ((finish_at s k).taken ≡ true) × ((finish_at (opened s i j) k).number ≡ (finish_at s k).number)
  finish_is k taken =
      elim (cases_Bool (j == k)) [
        | inl y ↦
            let same : finish_at (opened s i j) k ≡ new_finish s = finish_reads k ∙ rw y refl in
            inl (y, ap (λ (l : FinishLine). l.number) same)
        | inr y ↦
            let same : finish_at (opened s i j) k ≡ finish_at s k = finish_reads k ∙ rw y refl in
            inr (y, sym (ap (λ (l : FinishLine). l.taken) same) ∙ taken, ap (λ (l : FinishLine). l.number) same)
      ]

  clash : (k : ℕ) → (finish_at s k).taken ≡ true → f ≡ (finish_at s k).number → ⊥
  clash k taken same = true≢false (sym (eq-eqb f (finish_at s k).number same) ∙ other_number k taken)

  finishes_apart : (a b : ℕ) → (finish_at (opened s i j) a).taken ≡ true → (finish_at (opened s i j) b).taken ≡ true
      → (finish_at (opened s i j) a).number ≡ (finish_at (opened s i j) b).number → a ≡ b
  finishes_apart a b x y same =
      elim (finish_is a x) [
        | inl p ↦ elim (finish_is b y) [
          | inl q ↦ sym (eqb-true j a p.0) ∙ eqb-true j b q.0
          | inr q ↦ absurd (clash b q.1 (sym p.1 ∙ same ∙ q.2))
        ]
        | inr p ↦ elim (finish_is b y) [
          | inl q ↦ absurd (clash a p.1 (sym q.1 ∙ sym same ∙ p.2))
          | inr q ↦ st.finishes_apart a b p.1 q.1 (sym p.2 ∙ same ∙ q.2)
        ]
      ]

  later : (g : ℕ) → f + 1 ≤ g → (f == g) ≡ false
  later g h = false_from_ne_true (f == g) (λ same. never f g (eqb-true f g same) h)
    where
      never : (x y : ℕ) → x ≡ y → x + 1 ≤ y → ⊥
      never x y p q = omega (arith, p, q)

  pub open_stands : StandsFor (e ∷ w) (opened s i j)
  open_stands = record {
    legal = legal;
    tasks = tasks_stand;
    finishes = finishes_stand;
    tasks_apart = λ a b x y same. st.tasks_apart a b (sym (task_stays a).0 ∙ x) (sym (task_stays b).0 ∙ y)
        (sym (task_stays a).1 ∙ same ∙ (task_stays b).1);
    finishes_apart = finishes_apart;
    here = λ u born goes.
        let slot = st.here u born goes in
        (slot.0, (task_stays slot.0).0 ∙ slot.1, (task_stays slot.0).1 ∙ slot.2);
    unnamed = λ u h. st.unnamed u h;
    unopened = λ g h. rw (later g h) (st.unopened g (omega (arith, h)));
  }
