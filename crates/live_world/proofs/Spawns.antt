-- The spawn of a child on no phaser: the world stands for the history with just its two events more.
use Rattle.std.proofs.Common.{◌≡◌, ℕ, suc, ◌+◌, ◌<◌, ◌≤◌, ◌==◌, true, false, not, nat_lt, min, cond, List, [], ◌∷◌, map, length, set, slice_index_or, refl, sym, ap, subst, ◌∙◌, inl, inr, arith}
use Rattle.std.specs.List.{All, list_any}
use Rattle.std.proofs.lemmas.Bool.{cases_Bool, and_from, and_parts, or_right, eqb-true, eq-eqb, lt-ltb, true≢false, false_from_ne_true}
use Rattle.std.proofs.lemmas.List.{length-set}
use Rattle.std.proofs.lemmas.List.Elements.{All-head, All-nil, All-weaker}
use Rattle.finish_core.specs.declared.event.FinishEvent.{FinishEvent}
use Rattle.finish_core.specs.declared.event.FinishEvent.TheVariants.{Spawned}
use Rattle.finish_core.specs.Finish.{is_open, shuts}
use Rattle.world_model.specs.declared.event.Begun.TheVariants.{Async}
use Rattle.world_model.specs.declared.event.WorldEvent.{WorldEvent}
use Rattle.world_model.specs.declared.event.WorldEvent.TheVariants.{Finish, Begin}
use Rattle.world_model.specs.Actors.{actor}
use Rattle.world_model.specs.Due.{due}
use Rattle.world_model.specs.Numbers.{is_named, is_finish}
use Rattle.world_model.specs.Parts.{finish_past}
use Rattle.world_model.specs.Replies.{is_legal_world, is_accepted}
use Rattle.world_model.specs.Scopes.{inner, open_finishes}
use Rattle.world_model.specs.Tasks.{acts, is_born, is_ended, spawner}
use Rattle.world_model.proofs.OthersLeave.{due_other}
use Rattle.world_model.proofs.SmallWords.{eq_self}
use Rattle.world_model.proofs.SpawnedAtHome.{born_still}
use Rattle.task_standing.specs.declared.plan.Plan.TheVariants as plan
use Rattle.task_standing.specs.Histories.{IsAbout}
use Rattle.task_standing.specs.Known.{Known}
use Rattle.task_standing.specs.Standing.{begun, fresh}
use Rattle.task_standing.specs.Noted.{plan_of as plan_begun}
use Rattle.task_standing.proofs.Begins.{begins_begin}
use Rattle.task_standing.proofs.Finishes.{births_end_spawns}
use Rattle.task_standing.proofs.Unborn.{children_start_fresh, children_are_born}
use Rattle.live_world.specs.declared.at.FinishAt.{FinishAt}
use Rattle.live_world.specs.Counts.{alive}
use Rattle.live_world.specs.Live.{TaskLine, FinishLine, LiveState, live_limits, blank_task, blank_finish, task_at, finish_at, known_of, is_free, inner_at}
use Rattle.live_world.specs.StandsFor.{IsIn, IsParked, TaskStands, FinishStands, StandsFor}
use Rattle.live_world.specs.inner.Steps.{spawned}
use Rattle.live_world.proofs.SlotReads.{read_set, read_put}
use Rattle.live_world.proofs.Born.{unnamed_unborn, unborn_goes, unborn_unspawned, birth_accepted}
use Rattle.live_world.proofs.Others.{Goes, goes_of, goes_by_others, free_is_idle, free_is_idle_course, free_is_not_parked, open_is_finish, differ_by}

-- the innermost finish is there, and its number is that of what the task knows
pub inner_in : (s : LiveState) (fs : List FinishAt) (h : FinishAt) → IsIn s h → All (IsIn s) fs → IsIn s (slice_index_or fs 0 h)
inner_in s [] h home opened = home
inner_in s (f ∷ fs) h home opened = All-head (IsIn s) f fs opened

pub inner_number : (fs : List FinishAt) (h : FinishAt)
    → slice_index_or (map (λ (f : FinishAt). f.number) fs) 0 h.number ≡ (slice_index_or fs 0 h).number
inner_number [] h = refl
inner_number (f ∷ fs) h = refl

-- a spawn leaves a finish open
still_open : (h : List FinishEvent) (c : ℕ) → is_open h ≡ true → is_open (Spawned c ∷ h) ≡ true
still_open h c k = (and_parts _ (not (list_any shuts h)) k).1

one_more_is : (x y : ℕ) → x ≡ y → x + 1 ≡ suc y
one_more_is x y e = omega (arith, e)

-- what is written: of the spawner, the child, and the finish
abbrev pub spawner_line : TaskLine → TaskLine
spawner_line k = record k { acts = k.acts + 1 }

abbrev pub child_line : ℕ → FinishAt → TaskLine
child_line c home = record blank_task { number = c; taken = true; home = home }

abbrev pub fuller : FinishLine → FinishLine
fuller l = record l { alive = l.alive + 1 }

module _ (w : List WorldEvent) (s : LiveState) (i j : ℕ) (st : StandsFor w s) (there : (task_at s i).taken ≡ true)
    (free : is_free (task_at s i) ≡ true) (few : (task_at s i).acts < 4611686018427387904) (in_tasks : i < length s.tasks)
    (vacant : (task_at s j).taken ≡ false) (in_new : j ≤ length s.tasks) (below : s.next_task < 4611686018427387904)
    (in_finishes : (inner_at (task_at s i)).slot < length s.finishes) where
  abbrev t : ℕ
  t = (task_at s i).number

  abbrev c : ℕ
  c = s.next_task

  abbrev at : FinishAt
  at = inner_at (task_at s i)

  abbrev f : ℕ
  f = at.number

  abbrev s' : LiveState
  s' = spawned s i j

  abbrev w1 : List WorldEvent
  w1 = Begin t (Async c []) ∷ w

  abbrev w2 : List WorldEvent
  w2 = Finish f (Spawned c) ∷ w1

  old : TaskStands w s i (task_at s i)
  old = st.tasks i there

  own : Goes w (task_at s i)
  own = goes_of w s i (task_at s i) old

  unnamed : is_named c w ≡ false
  unnamed = st.unnamed c (omega arith)

  unborn : is_born c w ≡ false
  unborn = unnamed_unborn live_limits c w st.legal unnamed

  at_in : IsIn s at
  at_in = inner_in s (task_at s i).finishes (task_at s i).home old.home old.opened

  at_open : is_open (finish_past f w) ≡ true
  at_open = subst (λ n. is_open (finish_past n w) ≡ true) at_in.1 (st.finishes at.slot at_in.0).is_open

  acts_below : nat_lt (acts t w) 4611686018427387904 ≡ true
  acts_below = lt-ltb (acts t w) 4611686018427387904 (subst (λ n. n < 4611686018427387904) own.about.of.acts few)

  begin_accepted : is_accepted live_limits w (Begin t (Async c [])) ≡ true
  begin_accepted = rw (free_is_idle w (task_at s i) free own, unnamed, acts_below, lt-ltb c 4611686018427387904 below) refl

  legal1 : is_legal_world live_limits w1 ≡ true
  legal1 = and_from (is_accepted live_limits w (Begin t (Async c []))) (is_legal_world live_limits w) begin_accepted st.legal

  abbrev half : Known
  half = begun (plan_begun (Async c [])) (known_of (task_at s i))

  about1 : IsAbout w1 half
  about1 = begins_begin live_limits w (known_of (task_at s i)) (Async c []) (omega arith) legal1 own.about

  next : due t w1 ≡ Finish f (Spawned c) ∷ []
  next =
      about1.due_is
      ∙ ap (λ n. Finish n (Spawned c) ∷ []) (inner_number (task_at s i).finishes (task_at s i).home)

  by : spawner c w1 ≡ t
  by = rw (eq_self c) refl

  birth : is_accepted live_limits w1 (Finish f (Spawned c)) ≡ true
  birth =
      birth_accepted live_limits w1 t f c [] by next at_open (unborn_unspawned f c w unborn)
      (lt-ltb c 4611686018427387904 below)

  legal2 : is_legal_world live_limits w2 ≡ true
  legal2 = and_from (is_accepted live_limits w1 (Finish f (Spawned c))) (is_legal_world live_limits w1) birth legal1

  -- what is read then
  task_reads : (k : ℕ) → task_at s' k ≡ cond (j == k) (child_line c at) (cond (i == k) (spawner_line (task_at s i)) (task_at s k))
  task_reads k =
      read_put (set s.tasks i (spawner_line (task_at s i))) j k (child_line c at) blank_task
      (subst (λ n. j ≤ n) (sym (length-set s.tasks i (spawner_line (task_at s i)))) in_new)
      ∙ ap (λ (l : TaskLine). cond (j == k) (child_line c at) l) (read_set s.tasks i k (spawner_line (task_at s i)) blank_task in_tasks)

  finish_reads : (k : ℕ) → finish_at s' k ≡ cond (at.slot == k) (fuller (finish_at s at.slot)) (finish_at s k)
  finish_reads k = read_set s.finishes at.slot k (fuller (finish_at s at.slot)) blank_finish in_finishes

  -- a finish stays where it is, and is waited for as before
  record Stays (k : ℕ) : Type 0 where
    taken : (finish_at s' k).taken ≡ (finish_at s k).taken
    number : (finish_at s' k).number ≡ (finish_at s k).number
    waiter : (finish_at s' k).waiter ≡ (finish_at s k).waiter
    going : ((finish_at s k).alive == 0) ≡ false → ((finish_at s' k).alive == 0) ≡ false

  some : (n : ℕ) → ((n + 1) == 0) ≡ false
  some n = false_from_ne_true ((n + 1) == 0) (λ e. never n (eqb-true (n + 1) 0 e))
    where
      never : (m : ℕ) → m + 1 ≡ 0 → ⊥
      never m e = omega (arith, e)

  finish_stays : (k : ℕ) → Stays k
  finish_stays k =
      elim (cases_Bool (at.slot == k)) [
        | inl y ↦
            let same : finish_at s' k ≡ fuller (finish_at s at.slot) = finish_reads k ∙ rw y refl in
            let is : finish_at s at.slot ≡ finish_at s k = ap (λ x. finish_at s x) (eqb-true at.slot k y) in
            record {
              taken = ap (λ (l : FinishLine). l.taken) same ∙ ap (λ (l : FinishLine). l.taken) is;
              number = ap (λ (l : FinishLine). l.number) same ∙ ap (λ (l : FinishLine). l.number) is;
              waiter = ap (λ (l : FinishLine). l.waiter) same ∙ ap (λ (l : FinishLine). l.waiter) is;
              going = λ h. ap (λ (l : FinishLine). l.alive == 0) same ∙ some (finish_at s at.slot).alive;
            }
        | inr y ↦
            let same : finish_at s' k ≡ finish_at s k = finish_reads k ∙ rw y refl in
            record {
              taken = ap (λ (l : FinishLine). l.taken) same;
              number = ap (λ (l : FinishLine). l.number) same;
              waiter = ap (λ (l : FinishLine). l.waiter) same;
              going = λ h. ap (λ (l : FinishLine). l.alive == 0) same ∙ h;
            }
      ]

  in_stays : (g : FinishAt) → IsIn s g → IsIn s' g
  in_stays g h = ((finish_stays g.slot).taken ∙ h.0, (finish_stays g.slot).number ∙ h.1)

  -- the spawner
  own_about : IsAbout w2 (known_of (spawner_line (task_at s i)))
  own_about =
      let one_more : min ((task_at s i).acts + 1) 18446744073709551615 ≡ (task_at s i).acts + 1 = omega (arith, few) in
      let is : record half { plan = plan.Idle } ≡ known_of (spawner_line (task_at s i)) =
      rw (free_is_idle_course (task_at s i) free, one_more) refl in
      subst (λ (x : Known). IsAbout w2 x) is (births_end_spawns live_limits w1 half f c legal2 by about1)

  own_line : (k : ℕ) → TaskStands w2 s' k (spawner_line (task_at s i))
  own_line k = record {
    born = born_still t (Finish f (Spawned c)) w1 (born_still t (Begin t (Async c [])) w own.born);
    goes_on = own.goes_on;
    about = own_about;
    home = in_stays (task_at s i).home old.home;
    opened = All-weaker (IsIn s) (IsIn s') in_stays (task_at s i).finishes old.opened;
    parked = λ h. absurd (true≢false (sym h ∙ free_is_not_parked (task_at s i) free));
  }

  -- the child
  born_now : is_born c w2 ≡ true
  born_now = or_right (c == 0) _ (rw (eq_self c) refl)

  child_about : IsAbout w2 (fresh c f)
  child_about =
      children_are_born live_limits w1 (fresh c f) legal2 (children_start_fresh live_limits w t c f [] legal1)

  new_line : (k : ℕ) → TaskStands w2 s' k (child_line c at)
  new_line k = record {
    born = born_now;
    goes_on = unborn_goes live_limits c w st.legal unborn;
    about = child_about;
    home = in_stays at at_in;
    opened = All-nil (IsIn s');
    parked = λ h. absurd (true≢false (sym h));
  }

  -- another task
  not_own : (k : ℕ) → (task_at s k).taken ≡ true → (i == k) ≡ false → (t == (task_at s k).number) ≡ false
  not_own k taken other =
      false_from_ne_true (t == (task_at s k).number) (λ same. true≢false
      (sym (eq-eqb i k (st.tasks_apart i k there taken (eqb-true t (task_at s k).number same))) ∙ other))

  not_child : (l : TaskLine) → is_born l.number w ≡ true → (c == l.number) ≡ false
  not_child l born = differ_by (λ x. is_born x w) c l.number unborn born

  acts_second : (l : TaskLine) → (t == l.number) ≡ false → (actor w1 (Finish f (Spawned c)) == l.number) ≡ false
  acts_second l other = ap (λ n. n == l.number) by ∙ other

  other_parked : (k : ℕ) (l : TaskLine) → (t == l.number) ≡ false → IsParked w s k l → IsParked w2 s' k l
  other_parked k l other p = record {
    at = p.at;
    rest = p.rest;
    due_is =
        due_other l.number (Finish f (Spawned c)) w1 (acts_second l other)
        ∙ due_other l.number (Begin t (Async c [])) w other ∙ p.due_is;
    there = in_stays p.at p.there;
    going = (finish_stays p.at.slot).going p.going;
    waiter = (finish_stays p.at.slot).waiter ∙ p.waiter;
  }

  other_line : (k : ℕ) (l : TaskLine) → (t == l.number) ≡ false → TaskStands w s k l → TaskStands w2 s' k l
  other_line k l other is =
      let first = goes_by_others (Begin t (Async c [])) w l legal1 other refl refl (goes_of w s k l is) in
      let g = goes_by_others (Finish f (Spawned c)) w1 l legal2 (acts_second l other) (not_child l is.born) refl first in
      record {
        born = g.born;
        goes_on = g.goes_on;
        about = g.about;
        home = in_stays l.home is.home;
        opened = All-weaker (IsIn s) (IsIn s') in_stays l.finishes is.opened;
        parked = λ h. other_parked k l other (is.parked h);
      }

  -- the slot of the child, and what another slot was
  data Slot (k : ℕ) : Type 0 where
    of_child : (j == k) ≡ true → task_at s' k ≡ child_line c at → Slot k
    of_spawner : (j == k) ≡ false → (i == k) ≡ true → task_at s' k ≡ spawner_line (task_at s i) → Slot k
    of_other : (j == k) ≡ false → (i == k) ≡ false → task_at s' k ≡ task_at s k → Slot k

  slot : (k : ℕ) → Slot k
  slot k =
      elim (cases_Bool (j == k)) [
        | inl y ↦ of_child y (task_reads k ∙ rw y refl)
        | inr y ↦ elim (cases_Bool (i == k)) [
          | inl z ↦ of_spawner y z (task_reads k ∙ rw (y, z) refl)
          | inr z ↦ of_other y z (task_reads k ∙ rw (y, z) refl)
        ]
      ]

  taken_by : (k : ℕ) (l m : TaskLine) → l ≡ m → l.taken ≡ true → m.taken ≡ true
  taken_by k l m same h = sym (ap (λ (x : TaskLine). x.taken) same) ∙ h

  stands_at : (k : ℕ) → Slot k → (task_at s' k).taken ≡ true → TaskStands w2 s' k (task_at s' k)
  stands_at k (of_child y same) taken = subst (λ (l : TaskLine). TaskStands w2 s' k l) (sym same) (new_line k)
  stands_at k (of_spawner y z same) taken = subst (λ (l : TaskLine). TaskStands w2 s' k l) (sym same) (own_line k)
  stands_at k (of_other y z same) taken =
      let was = taken_by k (task_at s' k) (task_at s k) same taken in
      subst (λ (l : TaskLine). TaskStands w2 s' k l) (sym same) (other_line k (task_at s k) (not_own k was z) (st.tasks k was))

  -- a slot that was taken has the same number, and the child's is another
  data Was (k : ℕ) : Type 0 where
    new_one : j ≡ k → (task_at s' k).number ≡ c → Was k
    old_one : (task_at s k).taken ≡ true → (task_at s' k).number ≡ (task_at s k).number → Was k

  was : (k : ℕ) → Slot k → (task_at s' k).taken ≡ true → Was k
  was k (of_child y same) taken = new_one (eqb-true j k y) (ap (λ (l : TaskLine). l.number) same)
  was k (of_spawner y z same) taken =
      old_one (subst (λ x. (task_at s x).taken ≡ true) (eqb-true i k z) there)
      (ap (λ (l : TaskLine). l.number) same ∙ ap (λ x. (task_at s x).number) (eqb-true i k z))
  was k (of_other y z same) taken =
      old_one (taken_by k (task_at s' k) (task_at s k) same taken) (ap (λ (l : TaskLine). l.number) same)

  clash : (k : ℕ) → (task_at s k).taken ≡ true → (task_at s k).number ≡ c → ⊥
  clash k taken same =
      true≢false (sym (eq-eqb c (task_at s k).number (sym same)) ∙ not_child (task_at s k) (st.tasks k taken).born)

  apart_by : (a b : ℕ) → Was a → Was b → (task_at s' a).number ≡ (task_at s' b).number → a ≡ b
  apart_by a b (new_one x p) (new_one y q) same = sym x ∙ y
  apart_by a b (new_one x p) (old_one y q) same = absurd (clash b y (sym q ∙ sym same ∙ p))
  apart_by a b (old_one x p) (new_one y q) same = absurd (clash a x (sym p ∙ same ∙ q))
  apart_by a b (old_one x p) (old_one y q) same = st.tasks_apart a b x y (sym p ∙ same ∙ q)

  stays_there : (k : ℕ) → (task_at s k).taken ≡ true → Slot k
      → ((task_at s' k).taken ≡ true) × ((task_at s' k).number ≡ (task_at s k).number)
  stays_there k taken (of_child y same) =
      absurd (true≢false (sym (subst (λ x. (task_at s x).taken ≡ true) (sym (eqb-true j k y)) taken) ∙ vacant))
  stays_there k taken (of_spawner y z same) = (
    ap (λ (l : TaskLine). l.taken) same ∙ there,
    ap (λ (l : TaskLine). l.number) same ∙ ap (λ x. (task_at s x).number) (eqb-true i k z),
  )
  stays_there k taken (of_other y z same) =
      (ap (λ (l : TaskLine). l.taken) same ∙ taken, ap (λ (l : TaskLine). l.number) same)

  here_then : (u : ℕ) → is_born u w2 ≡ true → is_ended u w2 ≡ false
      → (k : ℕ) × ((task_at s' k).taken ≡ true) × ((task_at s' k).number ≡ u)
  here_then u born goes =
      elim (cases_Bool (c == u)) [
        | inl y ↦
            let reads : task_at s' j ≡ child_line c at = task_reads j ∙ rw (eq_self j) refl in
            (j, ap (λ (l : TaskLine). l.taken) reads, ap (λ (l : TaskLine). l.number) reads ∙ eqb-true c u y)
        | inr y ↦
            let before : is_born u w ≡ true = sym (rw y refl) ∙ born in
            let k = st.here u before goes in
            let stay = stays_there k.0 k.1 (slot k.0) in
            (k.0, stay.0, stay.1 ∙ k.2)
      ]

  later : (u : ℕ) → c + 1 ≤ u → (c == u) ≡ false
  later u h = false_from_ne_true (c == u) (λ same. never c u (eqb-true c u same) h)
    where
      never : (x y : ℕ) → x ≡ y → x + 1 ≤ y → ⊥
      never x y p q = omega (arith, p, q)

  -- the finishes
  other_number : (k : ℕ) → (finish_at s k).taken ≡ true → (at.slot == k) ≡ false → (f == (finish_at s k).number) ≡ false
  other_number k taken other =
      false_from_ne_true (f == (finish_at s k).number) (λ same. true≢false
      (sym (eq-eqb at.slot k (st.finishes_apart at.slot k at_in.0 taken
      (at_in.1 ∙ eqb-true f (finish_at s k).number same))) ∙ other))

  fuller_line : FinishStands w2 (fuller (finish_at s at.slot))
  fuller_line =
      let is : (f == (finish_at s at.slot).number) ≡ true = eq-eqb f (finish_at s at.slot).number (sym at_in.1) in
      let before = st.finishes at.slot at_in.0 in
      record {
        is_open = rw is (still_open (finish_past (finish_at s at.slot).number w) c before.is_open);
        alive = rw is (one_more_is (finish_at s at.slot).alive (alive (finish_past (finish_at s at.slot).number w)) before.alive);
      }

  finishes_stand : (k : ℕ) → (finish_at s' k).taken ≡ true → FinishStands w2 (finish_at s' k)
  finishes_stand k taken =
      elim (cases_Bool (at.slot == k)) [
        | inl y ↦
            let same : finish_at s' k ≡ fuller (finish_at s at.slot) = finish_reads k ∙ rw y refl in
            subst (λ (l : FinishLine). FinishStands w2 l) (sym same) fuller_line
        | inr y ↦
            let same : finish_at s' k ≡ finish_at s k = finish_reads k ∙ rw y refl in
            let was_there : (finish_at s k).taken ≡ true = sym (finish_stays k).taken ∙ taken in
            let before = st.finishes k was_there in
            subst (λ (l : FinishLine). FinishStands w2 l) (sym same)
            (record { is_open = rw (other_number k was_there y) before.is_open; alive = rw (other_number k was_there y) before.alive })
      ]

  unopened_then : (g : ℕ) → s.next_finish ≤ g → is_finish g w2 ≡ false
  unopened_then g h =
      let before = st.unopened g h in
      let other : (f == g) ≡ false =
      false_from_ne_true (f == g) (λ same. true≢false
      (sym (subst (λ x. is_finish x w ≡ true) (eqb-true f g same) (open_is_finish f w at_open)) ∙ before)) in
      rw other before

  pub inner_is : f ≡ inner t w
  inner_is =
      sym (inner_number (task_at s i).finishes (task_at s i).home)
      ∙ (ap (λ fs. slice_index_or fs 0 (task_at s i).home.number) own.about.of.finishes
      ∙ ap (λ h. slice_index_or (open_finishes t w) 0 h) own.about.of.home)

  pub spawn_stands : StandsFor w2 s'
  spawn_stands = record {
    legal = legal2;
    tasks = λ k taken. stands_at k (slot k) taken;
    finishes = finishes_stand;
    tasks_apart = λ a b x y same. apart_by a b (was a (slot a) x) (was b (slot b) y) same;
    finishes_apart = λ a b x y same. st.finishes_apart a b (sym (finish_stays a).taken ∙ x) (sym (finish_stays b).taken ∙ y)
        (sym (finish_stays a).number ∙ same ∙ (finish_stays b).number);
    here = here_then;
    unnamed = λ u h. rw (later u h) (st.unnamed u (omega (arith, h)));
    unopened = unopened_then;
  }
