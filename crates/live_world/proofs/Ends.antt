-- The end of a task other than the root: the world stands for the history with just its two events more.
use Rattle.std.proofs.Common.{◌≡◌, ℕ, ◌-◌, ◌<◌, ◌≤◌, ◌==◌, ◌⊎◌, nat_lt, true, false, not, cond, List, [], ◌∷◌, ◌++◌, Option, Some, None, map, length, get_or, set, refl, sym, ap, subst, ◌∙◌, inl, inr, arith}
use Rattle.std.specs.List.{list_any}
use Rattle.std.specs.Option.{option_map_or}
use Rattle.std.proofs.lemmas.Bool.{cases_Bool, and_from, and_parts, or_parts, eqb-true, eq-eqb, true≢false, false≢true, false_from_ne_true, ltb-true, ltb-false}
use Rattle.std.proofs.lemmas.List.{get_or_past, set_past}
use Rattle.std.proofs.lemmas.List.Elements.{All-weaker}
use Rattle.phase_modes.specs.Lists.{is_empty}
use Rattle.phase_modes.specs.declared.limits.Limits.{Limits}
use Rattle.finish_core.specs.declared.event.FinishEvent.{FinishEvent}
use Rattle.finish_core.specs.declared.event.FinishEvent.TheVariants.{Ended, Shut as Shutting}
use Rattle.finish_core.specs.Finish.{is_open, is_spawned, has_ended, shuts}
use Rattle.world_model.specs.declared.event.Begun.TheVariants.{End}
use Rattle.world_model.specs.declared.event.WorldEvent.{WorldEvent}
use Rattle.world_model.specs.declared.event.WorldEvent.TheVariants.{Finish, Begin}
use Rattle.world_model.specs.Due.{due}
use Rattle.world_model.specs.Numbers.{is_finish}
use Rattle.world_model.specs.Parts.{finish_past}
use Rattle.world_model.specs.Replies.{is_legal_world, is_accepted}
use Rattle.world_model.specs.Scopes.{open_finishes}
use Rattle.world_model.specs.Tasks.{home, is_born, is_ended}
use Rattle.world_model.proofs.EndedInside.{ended_in, home_spawned}
use Rattle.world_model.proofs.OthersLeave.{due_other}
use Rattle.world_model.proofs.SmallWords.{eq_self}
use Rattle.task_standing.specs.Histories.{IsAbout}
use Rattle.task_standing.specs.Standing.{begun}
use Rattle.task_standing.specs.StillToMake.{end_of}
use Rattle.task_standing.specs.Noted.{plan_of as plan_begun}
use Rattle.task_standing.proofs.Begins.{begins_begin}
use Rattle.live_world.specs.declared.at.FinishAt.{FinishAt}
use Rattle.live_world.specs.Live.{TaskLine, FinishLine, LiveState, live_limits, blank_task, blank_finish, task_at, finish_at, known_of, is_free}
use Rattle.live_world.specs.StandsFor.{IsIn, IsParked, TaskStands, FinishStands, StandsFor}
use Rattle.live_world.specs.inner.Steps.{left, emptier, freed_by, unparked}
use Rattle.live_world.proofs.SlotReads.{read_set}
use Rattle.live_world.proofs.Others.{Goes, goes_of, goes_by_others, free_is_idle, open_is_finish}

-- the end that is due of a task, in a finish that is open and in which it was spawned, is accepted
end_accepted : (l : Limits) (w : List WorldEvent) (t f : ℕ) (rest : List WorldEvent) → due t w ≡ Finish f (Ended t) ∷ rest
    → is_open (finish_past f w) ≡ true → is_spawned t (finish_past f w) ≡ true → has_ended t (finish_past f w) ≡ false
    → is_accepted l w (Finish f (Ended t)) ≡ true
end_accepted l w t f rest next now in_it runs = rw (next, eq_self f, eq_self t, now, in_it, runs) refl

-- an end leaves a finish open
ended_open : (h : List FinishEvent) (t : ℕ) → is_open h ≡ true → is_open (Ended t ∷ h) ≡ true
ended_open h t k = (and_parts _ (not (list_any shuts h)) k).1

none_of : (fs : List FinishAt) → is_empty fs ≡ true → fs ≡ []
none_of [] h = refl
none_of (f ∷ fs) h = absurd (false≢true h)

-- a slot after the one that was freed, if any, isn't parked any more
data Freed (o : Option ℕ) (ks : List TaskLine) (k : ℕ) : Type 0 where
  as_it_was : get_or (unparked o ks) k blank_task ≡ get_or ks k blank_task → (o ≡ Some k → (get_or ks k blank_task).parked ≡ false) → Freed o ks k
  let_go : get_or (unparked o ks) k blank_task ≡ record (get_or ks k blank_task) { parked = false } → Freed o ks k

freed : (o : Option ℕ) (ks : List TaskLine) (k : ℕ) → Freed o ks k
freed None ks k = as_it_was refl (λ e. absurd cc)
freed (Some i) ks k =
    elim (cases_Bool (nat_lt i (length ks))) [
      | inr e ↦
          let past : length ks ≤ i = ltb-false i (length ks) e in
          as_it_was (ap (λ xs. get_or xs k blank_task) (set_past ks i (record (get_or ks i blank_task) { parked = false }) past))
          (λ h. subst (λ x. (get_or ks x blank_task).parked ≡ false) (some_is i k h)
          (ap (λ (l : TaskLine). l.parked) (get_or_past ks i blank_task past)))
      | inl e ↦ by (cases_Bool (i == k)) (ltb-true i (length ks) e)
    ]
  where
    some_is : (a b : ℕ) → Some a ≡ Some b → a ≡ b
    some_is a b h = ap (λ (x : Option ℕ). option_map_or (λ n. n) x a) h

    by : ((i == k) ≡ true) ⊎ ((i == k) ≡ false) → i < length ks → Freed (Some i) ks k
    by (inl y) lt =
        let reads : get_or (set ks i (record (get_or ks i blank_task) { parked = false })) k blank_task
        ≡ record (get_or ks i blank_task) { parked = false } =
        read_set ks i k (record (get_or ks i blank_task) { parked = false }) blank_task lt ∙ rw y refl in
        let_go (reads ∙ ap (λ x. record (get_or ks x blank_task) { parked = false }) (eqb-true i k y))
    by (inr y) lt =
        as_it_was (read_set ks i k (record (get_or ks i blank_task) { parked = false }) blank_task lt ∙ rw y refl)
        (λ h. absurd (false≢true (sym y ∙ eq-eqb i k (some_is i k h))))

module _ (w : List WorldEvent) (s : LiveState) (i : ℕ) (st : StandsFor w s) (there : (task_at s i).taken ≡ true)
    (free : is_free (task_at s i) ≡ true) (shut : is_empty (task_at s i).finishes ≡ true)
    (not_root : ((task_at s i).number == 0) ≡ false) (in_tasks : i < length s.tasks)
    (in_finishes : (task_at s i).home.slot < length s.finishes) where
  abbrev t : ℕ
  t = (task_at s i).number

  abbrev at : FinishAt
  at = (task_at s i).home

  abbrev f : ℕ
  f = at.number

  abbrev s' : LiveState
  s' = left s i

  abbrev w1 : List WorldEvent
  w1 = Begin t End ∷ w

  abbrev w2 : List WorldEvent
  w2 = Finish f (Ended t) ∷ w1

  old : TaskStands w s i (task_at s i)
  old = st.tasks i there

  own : Goes w (task_at s i)
  own = goes_of w s i (task_at s i) old

  at_open : is_open (finish_past f w) ≡ true
  at_open = subst (λ n. is_open (finish_past n w) ≡ true) old.home.1 (st.finishes at.slot old.home.0).is_open

  no_finish : (task_at s i).finishes ≡ []
  no_finish = none_of (task_at s i).finishes shut

  none_open : open_finishes t w ≡ []
  none_open = sym own.about.of.finishes ∙ ap (λ fs. map (λ (g : FinishAt). g.number) fs) no_finish

  begin_accepted : is_accepted live_limits w (Begin t End) ≡ true
  begin_accepted = rw (free_is_idle w (task_at s i) free own, none_open) refl

  legal1 : is_legal_world live_limits w1 ≡ true
  legal1 = and_from (is_accepted live_limits w (Begin t End)) (is_legal_world live_limits w) begin_accepted st.legal

  about1 : IsAbout w1 (begun (plan_begun End) (known_of (task_at s i)))
  about1 = begins_begin live_limits w (known_of (task_at s i)) End (omega arith) legal1 own.about

  end_is : end_of (known_of (task_at s i)) ≡ Finish f (Ended t)
  end_is = rw not_root refl

  next : due t w1 ≡ Finish f (Ended t) ∷ []
  next =
      about1.due_is
      ∙ (ap (λ fs. map (λ g. Finish g Shutting) (map (λ (g : FinishAt). g.number) fs) ++ end_of (known_of (task_at s i)) ∷ []) no_finish
      ∙ ap (λ e. e ∷ []) end_is)

  spawned_here : is_spawned t (finish_past f w) ≡ true
  spawned_here =
      subst (λ n. is_spawned t (finish_past n w) ≡ true) (sym own.about.of.home)
      (home_spawned live_limits w st.legal t own.born not_root)

  runs : has_ended t (finish_past f w) ≡ false
  runs = false_from_ne_true (has_ended t (finish_past f w)) (λ h. true≢false (sym (ended_in t f w h) ∙ own.goes_on))

  ended : is_accepted live_limits w1 (Finish f (Ended t)) ≡ true
  ended = end_accepted live_limits w1 t f [] next at_open spawned_here runs

  legal2 : is_legal_world live_limits w2 ≡ true
  legal2 = and_from (is_accepted live_limits w1 (Finish f (Ended t))) (is_legal_world live_limits w1) ended legal1

  -- what is read then
  abbrev here_line : FinishLine
  here_line = finish_at s at.slot

  abbrev rest_tasks : List TaskLine
  rest_tasks = set s.tasks i (record (task_at s i) { taken = false })

  rest_reads : (k : ℕ) → get_or rest_tasks k blank_task ≡ cond (i == k) (record (task_at s i) { taken = false }) (task_at s k)
  rest_reads k = read_set s.tasks i k (record (task_at s i) { taken = false }) blank_task in_tasks

  finish_reads : (k : ℕ) → finish_at s' k ≡ cond (at.slot == k) (emptier here_line) (finish_at s k)
  finish_reads k = read_set s.finishes at.slot k (emptier here_line) blank_finish in_finishes

  in_stays : (g : FinishAt) → IsIn s g → IsIn s' g
  in_stays g h =
      elim (cases_Bool (at.slot == g.slot)) [
        | inl y ↦
            let same : finish_at s' g.slot ≡ emptier here_line = finish_reads g.slot ∙ rw y refl in
            let is : here_line ≡ finish_at s g.slot = ap (λ x. finish_at s x) (eqb-true at.slot g.slot y) in (
              ap (λ (l : FinishLine). l.taken) same ∙ (ap (λ (l : FinishLine). l.taken) is ∙ h.0),
              ap (λ (l : FinishLine). l.number) same ∙ (ap (λ (l : FinishLine). l.number) is ∙ h.1),
            )
        | inr y ↦
            let same : finish_at s' g.slot ≡ finish_at s g.slot = finish_reads g.slot ∙ rw y refl in
            (ap (λ (l : FinishLine). l.taken) same ∙ h.0, ap (λ (l : FinishLine). l.number) same ∙ h.1)
      ]

  -- another task goes on, parked or not
  abbrev by_others : ℕ → Type 0
  by_others n = (t == n) ≡ false

  other_goes : (l : TaskLine) → by_others l.number → Goes w l → Goes w2 l
  other_goes l other g =
      goes_by_others (Finish f (Ended t)) w1 l legal2 other refl other
      (goes_by_others (Begin t End) w l legal1 other refl refl g)

  free_line : (k : ℕ) (l : TaskLine) → by_others l.number → TaskStands w s k l → TaskStands w2 s' k (record l { parked = false })
  free_line k l other is =
      let g = other_goes l other (goes_of w s k l is) in
      record {
        born = g.born;
        goes_on = g.goes_on;
        about = g.about;
        home = in_stays l.home is.home;
        opened = All-weaker (IsIn s) (IsIn s') in_stays l.finishes is.opened;
        parked = λ h. absurd (false≢true h);
      }

  -- who isn't let go waits on: its finish is another, or tasks of it go on
  still_waits : (k : ℕ) (l : TaskLine) → by_others l.number → (freed_by here_line ≡ Some k → l.parked ≡ false) → l.parked ≡ true
      → IsParked w s k l → IsParked w2 s' k l
  still_waits k l other kept parked p =
      let due_same : due l.number w2 ≡ due l.number w =
      due_other l.number (Finish f (Ended t)) w1 other ∙ due_other l.number (Begin t End) w other in
      elim (cases_Bool (at.slot == p.at.slot)) [
        | inr y ↦
            let same : finish_at s' p.at.slot ≡ finish_at s p.at.slot = finish_reads p.at.slot ∙ rw y refl in
            record {
              at = p.at;
              rest = p.rest;
              due_is = due_same ∙ p.due_is;
              there = in_stays p.at p.there;
              going = ap (λ (x : FinishLine). x.alive == 0) same ∙ p.going;
              waiter = ap (λ (x : FinishLine). x.waiter) same ∙ p.waiter;
            }
        | inl y ↦
            let same : finish_at s' p.at.slot ≡ emptier here_line = finish_reads p.at.slot ∙ rw y refl in
            let is : here_line ≡ finish_at s p.at.slot = ap (λ x. finish_at s x) (eqb-true at.slot p.at.slot y) in
            let waits : here_line.waiter ≡ Some k = ap (λ (x : FinishLine). x.waiter) is ∙ p.waiter in
            elim (cases_Bool ((here_line.alive - 1) == 0)) [
              | inl z ↦
                  let gone : freed_by here_line ≡ Some k = rw z waits in
                  absurd (true≢false (sym parked ∙ kept gone))
              | inr z ↦ record {
                at = p.at;
                rest = p.rest;
                due_is = due_same ∙ p.due_is;
                there = in_stays p.at p.there;
                going = ap (λ (x : FinishLine). x.alive == 0) same ∙ z;
                waiter = ap (λ (x : FinishLine). x.waiter) same ∙ rw z waits;
              }
            ]
      ]

  kept_line : (k : ℕ) (l : TaskLine) → by_others l.number → (freed_by here_line ≡ Some k → l.parked ≡ false)
      → TaskStands w s k l → TaskStands w2 s' k l
  kept_line k l other kept is =
      let g = other_goes l other (goes_of w s k l is) in
      record {
        born = g.born;
        goes_on = g.goes_on;
        about = g.about;
        home = in_stays l.home is.home;
        opened = All-weaker (IsIn s) (IsIn s') in_stays l.finishes is.opened;
        parked = λ h. still_waits k l other kept h (is.parked h);
      }

  -- each slot but that of the task that ended has the same number as before
  not_own : (k : ℕ) → (task_at s k).taken ≡ true → (i == k) ≡ false → by_others (task_at s k).number
  not_own k taken other =
      false_from_ne_true (t == (task_at s k).number) (λ same. true≢false
      (sym (eq-eqb i k (st.tasks_apart i k there taken (eqb-true t (task_at s k).number same))) ∙ other))

  record Was (k : ℕ) : Type 0 where
    taken : (task_at s' k).taken ≡ (get_or rest_tasks k blank_task).taken
    number : (task_at s' k).number ≡ (get_or rest_tasks k blank_task).number

  was_by : (k : ℕ) → Freed (freed_by here_line) rest_tasks k → Was k
  was_by k (as_it_was same kept) = record {
    taken = ap (λ (l : TaskLine). l.taken) same;
    number = ap (λ (l : TaskLine). l.number) same;
  }
  was_by k (let_go same) = record {
    taken = ap (λ (l : TaskLine). l.taken) same;
    number = ap (λ (l : TaskLine). l.number) same;
  }

  was : (k : ℕ) → Was k
  was k = was_by k (freed (freed_by here_line) rest_tasks k)

  others_read : (k : ℕ) → (i == k) ≡ false → get_or rest_tasks k blank_task ≡ task_at s k
  others_read k y = rest_reads k ∙ rw y refl

  not_ended : (k : ℕ) → (task_at s' k).taken ≡ true → (i == k) ≡ false
  not_ended k taken =
      false_from_ne_true (i == k) (λ y.
      let reads : get_or rest_tasks k blank_task ≡ record (task_at s i) { taken = false } = rest_reads k ∙ rw y refl in
      true≢false (sym taken ∙ ((was k).taken ∙ ap (λ (l : TaskLine). l.taken) reads)))

  before_taken : (k : ℕ) → (task_at s' k).taken ≡ true → (task_at s k).taken ≡ true
  before_taken k taken =
      sym (ap (λ (l : TaskLine). l.taken) (others_read k (not_ended k taken))) ∙ (sym (was k).taken ∙ taken)

  number_same : (k : ℕ) → (i == k) ≡ false → (task_at s' k).number ≡ (task_at s k).number
  number_same k y = (was k).number ∙ ap (λ (l : TaskLine). l.number) (others_read k y)

  stands_by : (k : ℕ) → (i == k) ≡ false → (task_at s k).taken ≡ true → Freed (freed_by here_line) rest_tasks k
      → TaskStands w2 s' k (task_at s' k)
  stands_by k y taken (as_it_was same kept) =
      let reads = others_read k y in
      subst (λ (l : TaskLine). TaskStands w2 s' k l) (sym (same ∙ reads))
      (kept_line k (task_at s k) (not_own k taken y) (λ h. sym (ap (λ (l : TaskLine). l.parked) reads) ∙ kept h) (st.tasks k taken))
  stands_by k y taken (let_go same) =
      let reads = others_read k y in
      subst (λ (l : TaskLine). TaskStands w2 s' k l)
      (sym (same ∙ ap (λ (l : TaskLine). record l { parked = false }) reads))
      (free_line k (task_at s k) (not_own k taken y) (st.tasks k taken))

  -- the finishes
  other_number : (k : ℕ) → (finish_at s k).taken ≡ true → (at.slot == k) ≡ false → (f == (finish_at s k).number) ≡ false
  other_number k taken other =
      false_from_ne_true (f == (finish_at s k).number) (λ same. true≢false
      (sym (eq-eqb at.slot k (st.finishes_apart at.slot k old.home.0 taken
      (old.home.1 ∙ eqb-true f (finish_at s k).number same))) ∙ other))

  emptier_line : FinishStands w2 (emptier here_line)
  emptier_line =
      let is : (f == here_line.number) ≡ true = eq-eqb f here_line.number (sym old.home.1) in
      let before = st.finishes at.slot old.home.0 in
      record { is_open = rw is (ended_open (finish_past here_line.number w) t before.is_open); alive = rw is (ap (λ n. n - 1) before.alive) }

  record Stays (k : ℕ) : Type 0 where
    taken : (finish_at s' k).taken ≡ (finish_at s k).taken
    number : (finish_at s' k).number ≡ (finish_at s k).number

  finish_stays : (k : ℕ) → Stays k
  finish_stays k =
      elim (cases_Bool (at.slot == k)) [
        | inl y ↦
            let same : finish_at s' k ≡ emptier here_line = finish_reads k ∙ rw y refl in
            let is : here_line ≡ finish_at s k = ap (λ x. finish_at s x) (eqb-true at.slot k y) in
            record {
              taken = ap (λ (l : FinishLine). l.taken) same ∙ ap (λ (l : FinishLine). l.taken) is;
              number = ap (λ (l : FinishLine). l.number) same ∙ ap (λ (l : FinishLine). l.number) is;
            }
        | inr y ↦
            let same : finish_at s' k ≡ finish_at s k = finish_reads k ∙ rw y refl in
            record { taken = ap (λ (l : FinishLine). l.taken) same; number = ap (λ (l : FinishLine). l.number) same }
      ]

  finishes_stand : (k : ℕ) → (finish_at s' k).taken ≡ true → FinishStands w2 (finish_at s' k)
  finishes_stand k taken =
      elim (cases_Bool (at.slot == k)) [
        | inl y ↦
            let same : finish_at s' k ≡ emptier here_line = finish_reads k ∙ rw y refl in
            subst (λ (l : FinishLine). FinishStands w2 l) (sym same) emptier_line
        | inr y ↦
            let same : finish_at s' k ≡ finish_at s k = finish_reads k ∙ rw y refl in
            let was_there : (finish_at s k).taken ≡ true = sym (finish_stays k).taken ∙ taken in
            let before = st.finishes k was_there in
            subst (λ (l : FinishLine). FinishStands w2 l) (sym same)
            (record { is_open = rw (other_number k was_there y) before.is_open; alive = rw (other_number k was_there y) before.alive })
      ]

  here_then : (u : ℕ) → is_born u w2 ≡ true → is_ended u w2 ≡ false
      → (k : ℕ) × ((task_at s' k).taken ≡ true) × ((task_at s' k).number ≡ u)
  here_then u born goes =
      let parts = or_parts (t == u) (is_ended u w) goes in
      let k = st.here u born parts.1 in
      let other : (i == k.0) ≡ false =
      false_from_ne_true (i == k.0) (λ y. true≢false
      (sym (eq-eqb t u (ap (λ x. (task_at s x).number) (eqb-true i k.0 y) ∙ k.2)) ∙ parts.0)) in
      (k.0, (was k.0).taken ∙ (ap (λ (l : TaskLine). l.taken) (others_read k.0 other) ∙ k.1), number_same k.0 other ∙ k.2)

  unopened_then : (g : ℕ) → s.next_finish ≤ g → is_finish g w2 ≡ false
  unopened_then g h =
      let before = st.unopened g h in
      let other : (f == g) ≡ false =
      false_from_ne_true (f == g) (λ same. true≢false
      (sym (subst (λ x. is_finish x w ≡ true) (eqb-true f g same) (open_is_finish f w at_open)) ∙ before)) in
      rw other before

  pub home_is : f ≡ home t w
  home_is = own.about.of.home

  pub end_stands : StandsFor w2 s'
  end_stands = record {
    legal = legal2;
    tasks = λ k taken.
        stands_by k (not_ended k taken) (before_taken k taken) (freed (freed_by here_line) rest_tasks k);
    finishes = finishes_stand;
    tasks_apart = λ a b x y same. st.tasks_apart a b (before_taken a x) (before_taken b y)
        (sym (number_same a (not_ended a x)) ∙ same ∙ number_same b (not_ended b y));
    finishes_apart = λ a b x y same. st.finishes_apart a b (sym (finish_stays a).taken ∙ x) (sym (finish_stays b).taken ∙ y)
        (sym (finish_stays a).number ∙ same ∙ (finish_stays b).number);
    here = here_then;
    unnamed = λ u h. st.unnamed u h;
    unopened = unopened_then;
  }
