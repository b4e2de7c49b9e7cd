-- A drop of an act under way: the answer is the history's, and the world stands for what follows.
use Rattle.std.proofs.Common.{◌≡◌, ℕ, zero, suc, ◌+◌, ◌<◌, ◌≤◌, ◌==◌, Bool, true, false, ◌&&◌, ◌||◌, not, map, drop, cond, List, [], ◌∷◌, ◌++◌, reverse, Option, Some, None, length, set, get_or, Ok, refl, sym, ap, subst, ◌∙◌, arith, inl, inr}
use Rattle.std.specs.Prelude.{filter, filter_map, slice_get, option_map}
use Rattle.std.specs.Option.{option_map_or}
use Rattle.std.proofs.lemmas.Bool.{cases_Bool, eq-eqb, eqb-true, and_parts, and_from, false≢true}
use Rattle.std.proofs.lemmas.List.{length-set}
use Rattle.phase_modes.specs.Lists.{is_empty}
use Rattle.phase_modes.specs.declared.limits.Limits.{Limits}
use Rattle.phase_modes.specs.declared.phased.Pair.{Pair}
use Rattle.phase_modes.specs.declared.refusal.Refusal.TheVariants.{NotNow, NotRegistered}
use Rattle.phase_modes.specs.Refusal.{first_refusal}
use Rattle.phase_model.specs.declared.history.Event.TheVariants.{Drop as Dropped}
use Rattle.phase_model.specs.Rules.{Story, with_event}
use Rattle.phase_model.specs.Tasks.{is_live, is_registered, is_dropped}
use Rattle.phase_model.specs.Singles.{owes_nothing}
use Rattle.phase_model.specs.Replies as phaser
use Rattle.phase_model.specs.Replies.{decided, done, done_result}
use Rattle.phase_model.specs.declared.call.Call.TheVariants.{Drop as drop_task}
use Rattle.finish_core.specs.declared.event.FinishEvent.TheVariants.{Spawned, Ended, Shut as Shutting}
use Rattle.world_model.specs.declared.event.Step.TheVariants.{Reg, Sig, Claim, Did, Pass, Drop}
use Rattle.world_model.specs.declared.event.Begun.TheVariants.{End}
use Rattle.world_model.specs.declared.event.WorldEvent.{WorldEvent}
use Rattle.world_model.specs.declared.event.WorldEvent.TheVariants.{Phaser, Finish, Begin, Refuse, Fail}
use Rattle.world_records.specs.declared.plan.Plan.{Plan}
use Rattle.world_records.specs.declared.plan.Plan.TheVariants as plan
use Rattle.world_records.specs.TaskState.{TaskState}
use Rattle.world_records.specs.WorldState.{WorldState}
use Rattle.world_records.specs.Kept.{blank_task, blank_story, task_at, story_at, is_idle_plan}
use Rattle.world_model.specs.Parts.{terms_of, phaser_past}
use Rattle.world_model.specs.Scopes.{open_finishes}
use Rattle.world_model.specs.Tasks.{phasers_of, joined_by, is_born}
use Rattle.world_model.specs.Due.{due, or_single}
use Rattle.world_model.specs.Actors.{actor}
use Rattle.world_model.specs.TaskConditions.{last_entry}
use Rattle.world_model.specs.Continuing.{same_event}
use Rattle.world_model.specs.PartReplies.{phaser_reply}
use Rattle.world_model.specs.Replies.{reply, is_made, is_accepted, is_legal_world}
use Rattle.world_records.specs.inner.Steps.{done_by, with_task, is_first}
use Rattle.world_records.specs.inner.DropSteps.{wants_drop, is_to_drop, dropper_at, drop_result, drop_answer, drop_state, gone_from, drop_noted, task_gone}
use Rattle.world_records.proofs.LimitsStay.{limits_by}
use Rattle.world_records.specs.StandsFor.{TaskStands, StandsFor, IsStep, due_by, inner_of, end_of}
use Rattle.world_records.specs.Plans.{fits_plan, has_left}
use Rattle.world_model.proofs.OthersLeave.{due_other, due_own}
use Rattle.world_records.proofs.TableReads.{read_set}
use Rattle.world_model.proofs.PhasersOnce.{times, phasers_once}
use Rattle.world_model.proofs.UntouchedStays.{phasers_same}
use Rattle.world_model.proofs.DropsOnce.{drops_on, drops-append, own_drops, leads_to_end, drops_once}
use Rattle.world_records.proofs.Outcomes.{idle_plan, made_ok, unchanged_by, asked_and_done, settled_as, done_as, answer_by, called_within, named_within, swapped}
use Rattle.world_records.proofs.Joins.{other_stands}
use Rattle.world_model.proofs.PassesInTurns.{unborn_none, no_entry_due, registered_named}

never : (a : Bool) → (a && false) ≡ false
never true = refl
never false = refl

-- the first event due, as the drop of t from n
abbrev is_next_drop : Limits → List WorldEvent → List WorldEvent → ℕ → ℕ → Bool
is_next_drop l w ds n t = option_map_or (λ d. same_event d (Phaser n (Drop t))) (option_map (or_single l w) (slice_get ds 0)) false

module _ (l : Limits) (w : List WorldEvent) (n t : ℕ) where
  none_of : (h : ℕ → WorldEvent) → ((m : ℕ) → same_event (or_single l w (h m)) (Phaser n (Drop t)) ≡ false) → (ns : List ℕ) (rest : List WorldEvent) → is_next_drop l w rest n t ≡ false → is_next_drop l w (map h ns ++ rest) n t ≡ false
  none_of h other [] rest e = e
  none_of h other (m ∷ ns) rest e = other m

  pass_by : (a b : Bool) (m u : ℕ) → same_event (cond a (Phaser m (Claim u)) (cond b (Phaser m (Did u)) (Phaser m (Pass u)))) (Phaser n (Drop t)) ≡ false
  pass_by true b m u = never (m == n)
  pass_by false true m u = never (m == n)
  pass_by false false m u = never (m == n)

  passes_are_none : (u : ℕ) (ns : List ℕ) → is_next_drop l w (map (λ m. Phaser m (Pass u)) ns) n t ≡ false
  passes_are_none u [] = refl
  passes_are_none u (m ∷ ns) = pass_by _ _ m u

  regs_are_none : (u c g : ℕ) (ps : List Pair) → is_next_drop l w (map (λ p. Phaser p.phaser (Reg u c p.mode)) ps ++ Finish g (Spawned c) ∷ []) n t ≡ false
  regs_are_none u c g [] = refl
  regs_are_none u c g (p ∷ ps) = never (p.phaser == n)

  end_by : (b : Bool) (h u : ℕ) → is_next_drop l w (cond b (Finish 0 Shutting) (Finish h (Ended u)) ∷ []) n t ≡ false
  end_by true h u = refl
  end_by false h u = refl

  -- the drops of u from the first of these
  firsts : (u : ℕ) (ms : List ℕ) (rest : List WorldEvent) → is_next_drop l w rest n t ≡ false → (is_first ms n && u == t) ≡ is_next_drop l w (map (λ m. Phaser m (Drop u)) ms ++ rest) n t
  firsts u [] rest e = sym e
  firsts u (m ∷ ms) rest e = refl

  wanted_is_next : (a : ℕ) (k : TaskState) (fs : List ℕ) (p : Plan) (left : List ℕ) → k.left ≡ left → wants_drop p left k.phasers a n t ≡ is_next_drop l w (due_by a k fs p) n t
  wanted_is_next a k fs plan.Idle left e = refl
  wanted_is_next a k fs (plan.Signalling x true) left e = sym (none_of (λ m. Phaser m (Sig a x)) (λ m. never (m == n)) k.left (map (λ m. Phaser m (Pass a)) k.phasers) (passes_are_none a k.phasers))
  wanted_is_next a k fs (plan.Signalling x false) left e = sym (none_of (λ m. Phaser m (Sig a x)) (λ m. never (m == n)) k.left [] refl)
  wanted_is_next a k fs plan.Turning left e = sym (passes_are_none a k.left)
  wanted_is_next a k fs (plan.Spawning c pairs made) left e = sym (regs_are_none a c (inner_of k fs) (drop made pairs))
  wanted_is_next a k fs plan.Shutting left e =
      firsts a left (Finish (inner_of k fs) Shutting ∷ []) refl
      ∙ ap (λ ms. is_next_drop l w (map (λ m. Phaser m (Drop a)) ms ++ Finish (inner_of k fs) Shutting ∷ []) n t) (sym e)
  wanted_is_next a k fs (plan.Ending d) [] e =
      let rest = map (λ g. Finish g Shutting) fs ++ end_of a k ∷ [] in
      firsts a k.phasers rest (none_of (λ g. Finish g Shutting) (λ g. refl) fs (end_of a k ∷ []) (end_by (a == 0) k.home a))
      ∙ ap (λ ms. is_next_drop l w (map (λ m. Phaser m (Drop d)) ms ++ (map (λ m. Phaser m (Drop a)) k.phasers ++ rest)) n t) (sym e)
  wanted_is_next a k fs (plan.Ending d) (m ∷ ms) e =
      ap (λ is. is_next_drop l w (map (λ i. Phaser i (Drop d)) is ++ (map (λ i. Phaser i (Drop a)) k.phasers ++ (map (λ g. Finish g Shutting) fs ++ end_of a k ∷ []))) n t) (sym e)

module _ (s : WorldState) (w : List WorldEvent) (n t : ℕ) (st : StandsFor w s) where
  pub dropper_is : dropper_at s t ≡ actor w (Phaser n (Drop t))
  dropper_is = rw ((st.tasks t).born, (st.tasks t).spawner) refl

  pub drop_answers : drop_answer s n t ≡ reply s.limits w (Phaser n (Drop t))
  drop_answers =
      let a = dropper_at s t in
      let k = task_at s a in
      let line = st.tasks a in
      let wanted : is_to_drop k a n t ≡ is_next_drop s.limits w (due a w) n t =
      wanted_is_next s.limits w n t a k (open_finishes a w) k.plan k.left refl ∙ ap (λ ds. is_next_drop s.limits w ds n t) (sym line.due_is)
      in
      let next : is_to_drop k a n t ≡ is_next_drop s.limits w (due (actor w (Phaser n (Drop t))) w) n t = wanted ∙ ap (λ v. is_next_drop s.limits w (due v w) n t) dropper_is in
      let story : done_by (done_result (phaser.reply (story_at s n) (drop_task t))) ≡ phaser_reply s.limits w n (Drop t) =
      ap (λ y. done_by (done_result (phaser.reply y (drop_task t)))) (st.phasers n).story ∙ done_as (phaser_past n w) _ _ (Dropped t) refl
      in
      answer_by (is_to_drop k a n t) (is_next_drop s.limits w (due (actor w (Phaser n (Drop t))) w) n t) (phaser_reply s.limits w n (Drop t)) (done_result (phaser.reply (story_at s n) (drop_task t))) next story

-- the numbers that pass one test and another
filter_twice : (p q r : ℕ → Bool) (xs : List ℕ) → ((m : ℕ) → p m ≡ (q m && r m)) → filter p xs ≡ filter r (filter q xs)
filter_twice p q r [] e = refl
filter_twice p q r (x ∷ xs) e =
    let rest : filter p xs ≡ filter r (filter q xs) = filter_twice p q r xs e in
    elim (cases_Bool (q x)) [
      | inl k ↦ rw (e x, k) (ap (λ ys. cond (r x) (x ∷ ys) ys) rest)
      | inr k ↦ rw (e x, k) rest
    ]

and_not : (a b : Bool) → (a && not (true || b)) ≡ (a && not b && false)
and_not true true = refl
and_not true false = refl
and_not false b = refl

and_true : (a b : Bool) → (a && not b) ≡ (a && not b && true)
and_true true true = refl
and_true true false = refl
and_true false b = refl

module _ (w : List WorldEvent) (n t : ℕ) where
  live_left : (m : ℕ) → is_live t (phaser_past m (Phaser n (Drop t) ∷ w)) ≡ (is_live t (phaser_past m w) && not (m == n))
  live_left m = elim (cases_Bool (n == m)) [
    | inl e ↦
        let back : (m == n) ≡ true = swapped n m true e in
        rw (e, eq-eqb t t refl, back) (and_not (is_registered t (phaser_past m w)) (is_dropped t (phaser_past m w)))
    | inr e ↦
        let back : (m == n) ≡ false = swapped n m false e in
        rw (e, back) (and_true (is_registered t (phaser_past m w)) (is_dropped t (phaser_past m w)))
  ]

  pub own_gone : phasers_of t (Phaser n (Drop t) ∷ w) ≡ filter (λ m. not (m == n)) (phasers_of t w)
  own_gone =
      filter_twice (λ m. is_live t (phaser_past m (Phaser n (Drop t) ∷ w))) (λ m. is_live t (phaser_past m w)) (λ m. not (m == n)) (reverse (filter_map (joined_by t) w)) live_left

  others_gone : (u : ℕ) → (t == u) ≡ false → phasers_of u (Phaser n (Drop t) ∷ w) ≡ phasers_of u w
  others_gone u e = phasers_same u (Phaser n (Drop t)) w e

not_empty : (xs : List WorldEvent) (y : WorldEvent) → is_empty (xs ++ y ∷ []) ≡ false
not_empty [] y = refl
not_empty (x ∷ xs) y = refl

not_empty_after : (xs ys : List WorldEvent) → is_empty ys ≡ false → is_empty (xs ++ ys) ≡ false
not_empty_after [] ys e = e
not_empty_after (x ∷ xs) ys e = refl

-- what leads to an end, by its plan
fits_end : (d : ℕ) (o : Option WorldEvent) → fits_plan (plan.Ending d) o ≡ true → leads_to_end o ≡ true
fits_end d (Some (Begin u End)) e = refl
fits_end d (Some (Refuse u a i)) e = refl
fits_end d (Some (Fail u i)) e = refl
fits_end d (Some (Begin u b)) e = absurd cc
fits_end d (Some (Phaser m x)) e = absurd cc
fits_end d (Some (Finish g x)) e = absurd cc
fits_end d None e = absurd cc

-- a list in which n doesn't stand loses nothing
keep_all : (n : ℕ) (xs : List ℕ) → times n xs ≡ 0 → filter (λ m. not (m == n)) xs ≡ xs
keep_all n [] e = refl
keep_all n (x ∷ xs) e =
    elim (cases_Bool (x == n)) [
      | inl k ↦ absurd (more (times n xs) (ap (λ b. cond b (times n xs + 1) (times n xs)) (sym k) ∙ e))
      | inr k ↦ rw k (ap (λ ys. x ∷ ys) (keep_all n xs (ap (λ b. cond b (times n xs + 1) (times n xs)) (sym k) ∙ e)))
    ]
  where
    more : (i : ℕ) → i + 1 ≡ 0 → ⊥
    more i h = absurd (omega (arith, h))

-- where the first is n, and n stands once, it is what is lost
lose_first : (n i : ℕ) (is : List ℕ) → (i == n) ≡ true → times n (i ∷ is) ≡ 1 → filter (λ m. not (m == n)) (i ∷ is) ≡ is
lose_first n i is e k =
    let none : times n is ≡ 0 = less (times n is) (ap (λ b. cond b (times n is + 1) (times n is)) (sym e) ∙ k) in
    rw e (keep_all n is none)
  where
    less : (x : ℕ) → x + 1 ≡ 1 → x ≡ 0
    less x h = omega (arith, h)

-- the acting task's line, but for what a drop changes
module _ (outers : List (Option ℕ)) (w : List WorldEvent) (n t a : ℕ) (k : TaskState) (by : (actor w (Phaser n (Drop t)) == a) ≡ true) (st : TaskStands outers w a k) where
  own_line : (p : Plan) (left own : List ℕ)
      → drop 1 (due a w) ≡ due_by a (record k { plan = p; left = left; phasers = own }) (open_finishes a w) p
      → is_idle_plan p ≡ is_empty (drop 1 (due a w))
      → fits_plan p (last_entry a w) ≡ true
      → has_left p left ≡ true
      → own ≡ phasers_of a (Phaser n (Drop t) ∷ w)
      → TaskStands outers (Phaser n (Drop t) ∷ w) a (record k { plan = p; left = left; phasers = own })
  own_line p left own rest idle fits has phasers =
      let made : due a (Phaser n (Drop t) ∷ w) ≡ drop 1 (due a w) = due_own a (Phaser n (Drop t)) w refl by refl in
      record {
        due_is = made ∙ rest;
        idle = idle ∙ ap (λ ds. is_empty ds) (sym made);
        plan = fits;
        left = has;
        chain = st.chain;
        phasers = phasers;
        clock = st.clock;
        acts = st.acts;
        home = st.home;
        spawner = st.spawner;
        named = st.named;
        born = st.born;
        ended = st.ended;
        refused = st.refused;
      }

  -- a shut under way
  shut_line : (own ls : List ℕ) (m : ℕ) → k.plan ≡ plan.Shutting → k.left ≡ m ∷ ls → own ≡ phasers_of a (Phaser n (Drop t) ∷ w) → TaskStands outers (Phaser n (Drop t) ∷ w) a (record k { left = ls; phasers = own })
  shut_line own ls m e l phasers =
      let fs = open_finishes a w in
      let d : due a w ≡ map (λ i. Phaser i (Drop a)) (m ∷ ls) ++ Finish (inner_of k fs) Shutting ∷ [] =
      st.due_is ∙ (ap (λ q. due_by a k fs q) e ∙ ap (λ is. map (λ i. Phaser i (Drop a)) is ++ Finish (inner_of k fs) Shutting ∷ []) l)
      in
      let rest : drop 1 (due a w) ≡ map (λ i. Phaser i (Drop a)) ls ++ Finish (inner_of k fs) Shutting ∷ [] = ap (λ ds. drop 1 ds) d in
      let some : false ≡ is_empty (drop 1 (due a w)) = sym (ap (λ ds. is_empty ds) rest ∙ not_empty (map (λ i. Phaser i (Drop a)) ls) (Finish (inner_of k fs) Shutting)) in
      subst (λ q. TaskStands outers (Phaser n (Drop t) ∷ w) a (record k { plan = q; left = ls; phasers = own })) (sym e)
      (own_line plan.Shutting ls own rest some (ap (λ q. fits_plan q (last_entry a w)) (sym e) ∙ st.plan) refl phasers)

  abbrev tail_of : List WorldEvent
  tail_of = map (λ g. Finish g Shutting) (open_finishes a w) ++ end_of a k ∷ []

  -- the end, where its own phasers are left; js are those that stay
  end_line : (d m : ℕ) (own js : List ℕ) → k.plan ≡ plan.Ending d → k.left ≡ [] → k.phasers ≡ m ∷ js → own ≡ js → own ≡ phasers_of a (Phaser n (Drop t) ∷ w)
      → TaskStands outers (Phaser n (Drop t) ∷ w) a (record k { left = []; phasers = own })
  end_line d m own js e l on same phasers =
      let fs = open_finishes a w in
      let all : due a w ≡ map (λ i. Phaser i (Drop a)) (m ∷ js) ++ tail_of =
      st.due_is ∙ (ap (λ q. due_by a k fs q) e ∙ (ap (λ is. map (λ i. Phaser i (Drop d)) is ++ (map (λ i. Phaser i (Drop a)) k.phasers ++ tail_of)) l ∙ ap (λ is. map (λ i. Phaser i (Drop a)) is ++ tail_of) on))
      in
      let rest : drop 1 (due a w) ≡ map (λ i. Phaser i (Drop a)) own ++ tail_of = ap (λ ds. drop 1 ds) all ∙ ap (λ is. map (λ i. Phaser i (Drop a)) is ++ tail_of) (sym same) in
      let some : false ≡ is_empty (drop 1 (due a w)) =
      sym (ap (λ ds. is_empty ds) rest ∙ not_empty_after (map (λ i. Phaser i (Drop a)) own) tail_of (not_empty (map (λ g. Finish g Shutting) fs) (end_of a k)))
      in
      subst (λ q. TaskStands outers (Phaser n (Drop t) ∷ w) a (record k { plan = q; left = []; phasers = own })) (sym e)
      (own_line (plan.Ending d) [] own rest some (ap (λ q. fits_plan q (last_entry a w)) (sym e) ∙ st.plan) refl phasers)

  -- the end, where a child's phasers are left
  child_dropped : (d m : ℕ) (ls : List ℕ) → k.plan ≡ plan.Ending d → k.left ≡ m ∷ ls → k.phasers ≡ phasers_of a (Phaser n (Drop t) ∷ w) → TaskStands outers (Phaser n (Drop t) ∷ w) a (record k { left = ls })
  child_dropped d m ls e l phasers =
      let fs = open_finishes a w in
      let others = map (λ i. Phaser i (Drop a)) k.phasers ++ tail_of in
      let all : due a w ≡ map (λ i. Phaser i (Drop d)) (m ∷ ls) ++ others = st.due_is ∙ (ap (λ q. due_by a k fs q) e ∙ ap (λ is. map (λ i. Phaser i (Drop d)) is ++ others) l) in
      let rest : drop 1 (due a w) ≡ map (λ i. Phaser i (Drop d)) ls ++ others = ap (λ ds. drop 1 ds) all in
      let some : false ≡ is_empty (drop 1 (due a w)) =
      sym (ap (λ ds. is_empty ds) rest ∙ not_empty_after (map (λ i. Phaser i (Drop d)) ls) others
      (not_empty_after (map (λ i. Phaser i (Drop a)) k.phasers) tail_of (not_empty (map (λ g. Finish g Shutting) fs) (end_of a k))))
      in
      subst (λ q. TaskStands outers (Phaser n (Drop t) ∷ w) a (record k { plan = q; left = ls })) (sym e)
      (own_line (plan.Ending d) ls k.phasers rest some (ap (λ q. fits_plan q (last_entry a w)) (sym e) ∙ st.plan) refl phasers)

  -- where another task is dropped, it is a child
  pub for_child : (p : Plan) (left : List ℕ) → (a == t) ≡ false → (t == a) ≡ false → k.plan ≡ p → k.left ≡ left → wants_drop p left k.phasers a n t ≡ true → TaskStands outers (Phaser n (Drop t) ∷ w) a (drop_noted k)
  for_child plan.Idle left apart back e l want = absurd cc
  for_child (plan.Signalling x turn) left apart back e l want = absurd cc
  for_child plan.Turning left apart back e l want = absurd cc
  for_child (plan.Spawning c pairs made) left apart back e l want = absurd cc
  for_child plan.Shutting left apart back e l want = absurd (false≢true (sym apart ∙ (and_parts (is_first left n) (a == t) want).1))
  for_child (plan.Ending d) [] apart back e l want = absurd (false≢true (sym apart ∙ (and_parts (is_first k.phasers n) (a == t) want).1))
  for_child (plan.Ending d) (m ∷ ls) apart back e l want =
      subst (λ ms. TaskStands outers (Phaser n (Drop t) ∷ w) a (record k { left = ms })) (sym (ap (λ ms. drop 1 ms) l))
      (child_dropped d m ls e l (st.phasers ∙ sym (others_gone w n t a back)))

-- a task that leaves a phaser of its own
module _ (outers : List (Option ℕ)) (l : Limits) (w : List WorldEvent) (legal : is_legal_world l w ≡ true) (n t : ℕ) (k : TaskState) (by : (actor w (Phaser n (Drop t)) == t) ≡ true) (live : is_live t (phaser_past n w) ≡ true) (st : TaskStands outers w t k) where
  on_once : times n k.phasers ≡ 1
  on_once = ap (λ ns. times n ns) st.phasers ∙ (phasers_once l w legal t n ∙ ap (λ b. cond b 1 0) live)

  after_gone : filter (λ m. not (m == n)) k.phasers ≡ phasers_of t (Phaser n (Drop t) ∷ w)
  after_gone = ap (λ ns. filter (λ m. not (m == n)) ns) st.phasers ∙ sym (own_gone w n t)

  -- it isn't listed twice
  not_twice : (d m : ℕ) (ls : List ℕ) → k.plan ≡ plan.Ending d → k.left ≡ m ∷ ls → (m == n && d == t) ≡ true → ⊥
  not_twice d m ls e left want =
      let parts = and_parts (m == n) (d == t) want in
      let rest = map (λ g. Finish g Shutting) (open_finishes t w) ++ end_of t k ∷ [] in
      let own = map (λ i. Phaser i (Drop t)) k.phasers in
      let all : due t w ≡ map (λ i. Phaser i (Drop t)) (m ∷ ls) ++ (own ++ rest) =
      st.due_is ∙ (ap (λ q. due_by t k (open_finishes t w) q) e ∙ (ap (λ is. map (λ i. Phaser i (Drop d)) is ++ (own ++ rest)) left ∙ ap (λ v. map (λ i. Phaser i (Drop v)) (m ∷ ls) ++ (own ++ rest)) (eqb-true d t parts.1)))
      in
      let few : drops_on t n (due t w) ≤ 1 = drops_once l t n w legal (fits_end d (last_entry t w) (ap (λ q. fits_plan q (last_entry t w)) (sym e) ∙ st.plan)) in
      let listed : drops_on t n (map (λ i. Phaser i (Drop t)) (m ∷ ls)) ≡ times n ls + 1 = own_drops t n (m ∷ ls) ∙ ap (λ b. cond b (times n ls + 1) (times n ls)) parts.0 in
      let one : drops_on t n own ≡ 1 = own_drops t n k.phasers ∙ on_once in
      let sum : drops_on t n (due t w) ≡ drops_on t n (map (λ i. Phaser i (Drop t)) (m ∷ ls)) + drops_on t n (own ++ rest) = ap (λ ds. drops_on t n ds) all ∙ drops-append t n (map (λ i. Phaser i (Drop t)) (m ∷ ls)) (own ++ rest) in
      let sum2 : drops_on t n (own ++ rest) ≡ drops_on t n own + drops_on t n rest = drops-append t n own rest in
      absurd (omega (arith, few, listed, one, sum, sum2))

  pub for_itself : (p : Plan) (left own : List ℕ) → k.plan ≡ p → k.left ≡ left → k.phasers ≡ own → wants_drop p left own t n t ≡ true → TaskStands outers (Phaser n (Drop t) ∷ w) t (drop_noted (gone_from n k))
  for_itself plan.Idle left own e f g want = absurd cc
  for_itself (plan.Signalling x turn) left own e f g want = absurd cc
  for_itself plan.Turning left own e f g want = absurd cc
  for_itself (plan.Spawning c pairs made) left own e f g want = absurd cc
  for_itself plan.Shutting [] own e f g want = absurd cc
  for_itself plan.Shutting (m ∷ ls) own e f g want =
      subst (λ ms. TaskStands outers (Phaser n (Drop t) ∷ w) t (record k { left = ms; phasers = filter (λ m. not (m == n)) k.phasers })) (sym (ap (λ ms. drop 1 ms) f))
      (shut_line outers w n t t k by st (filter (λ m. not (m == n)) k.phasers) ls m e f after_gone)
  for_itself (plan.Ending d) [] [] e f g want = absurd cc
  for_itself (plan.Ending d) [] (i ∷ is) e f g want =
      let first : (i == n) ≡ true = (and_parts (i == n) (t == t) want).0 in
      let stay : filter (λ m. not (m == n)) k.phasers ≡ is = ap (λ ns. filter (λ m. not (m == n)) ns) g ∙ lose_first n i is first (ap (λ ns. times n ns) (sym g) ∙ on_once) in
      subst (λ ms. TaskStands outers (Phaser n (Drop t) ∷ w) t (record k { left = ms; phasers = filter (λ m. not (m == n)) k.phasers })) (sym (ap (λ ms. drop 1 ms) f))
      (end_line outers w n t t k by st d i (filter (λ m. not (m == n)) k.phasers) is e f g stay after_gone)
  for_itself (plan.Ending d) (m ∷ ls) own e f g want = absurd (not_twice d m ls e f want)

-- a child that its spawner drops: it has nothing to make
child_line : (outers : List (Option ℕ)) (w : List WorldEvent) (n t : ℕ) (k : TaskState) → (actor w (Phaser n (Drop t)) == t) ≡ false → due t w ≡ [] → TaskStands outers w t k → TaskStands outers (Phaser n (Drop t) ∷ w) t (gone_from n k)
child_line outers w n t k apart nothing st =
    let same : due t (Phaser n (Drop t) ∷ w) ≡ [] = due_other t (Phaser n (Drop t)) w apart ∙ nothing in
    let idle : is_idle_plan k.plan ≡ true = st.idle ∙ ap (λ ds. is_empty ds) nothing in
    let plain : k.plan ≡ plan.Idle = idle_plan k.plan idle in
    record {
      due_is = rw plain same;
      idle = idle ∙ ap (λ ds. is_empty ds) (sym same);
      plan = st.plan;
      left = st.left;
      chain = st.chain;
      phasers = ap (λ ns. filter (λ m. not (m == n)) ns) st.phasers ∙ sym (own_gone w n t);
      clock = st.clock;
      acts = st.acts;
      home = st.home;
      spawner = st.spawner;
      named = st.named;
      born = st.born;
      ended = st.ended;
      refused = st.refused;
    }

module _ (s : WorldState) (w : List WorldEvent) (n t : ℕ) (st : StandsFor w s) (live : is_live t (phaser_past n w) ≡ true) where
  other_line : (u : ℕ) → (t == u) ≡ false → (actor w (Phaser n (Drop t)) == u) ≡ false → TaskStands s.outers (Phaser n (Drop t) ∷ w) u (task_at s u)
  other_line u e by = other_stands s.outers w u n (task_at s u) (Drop t) by (others_gone w n t u e) refl (st.tasks u)

  -- the lines of all tasks, where the task itself leaves
  own_lines : t ≡ actor w (Phaser n (Drop t)) → is_to_drop (task_at s t) t n t ≡ true → (u : ℕ)
      → TaskStands s.outers (Phaser n (Drop t) ∷ w) u (cond (t == u) (drop_noted (cond (t == t) (gone_from n (task_at s t)) (task_at s t))) (cond (t == u) (gone_from n (task_at s t)) (task_at s u)))
  own_lines by want u =
      let k = task_at s t in
      let acting : (actor w (Phaser n (Drop t)) == t) ≡ true = ap (λ v. v == t) (sym by) ∙ eq-eqb t t refl in
      let own : TaskStands s.outers (Phaser n (Drop t) ∷ w) t (drop_noted (gone_from n k)) = for_itself s.outers s.limits w st.legal n t k acting live (st.tasks t) k.plan k.left k.phasers refl refl refl want in
      elim (cases_Bool (t == u)) [
        | inl e ↦ rw (e, eq-eqb t t refl) (subst (λ v. TaskStands s.outers (Phaser n (Drop t) ∷ w) v (drop_noted (gone_from n k))) (eqb-true t u e) own)
        | inr e ↦ rw e (other_line u e (ap (λ v. v == u) (sym by) ∙ e))
      ]

  -- and where its spawner drops it
  child_lines : (a : ℕ) → a ≡ actor w (Phaser n (Drop t)) → (a == t) ≡ false → is_born t w ≡ false → is_to_drop (task_at s a) a n t ≡ true → (u : ℕ)
      → TaskStands s.outers (Phaser n (Drop t) ∷ w) u (cond (a == u) (drop_noted (cond (t == a) (gone_from n (task_at s t)) (task_at s a))) (cond (t == u) (gone_from n (task_at s t)) (task_at s u)))
  child_lines a by apart unborn want u =
      let k = task_at s a in
      let back : (t == a) ≡ false = swapped a t false apart in
      let acting : (actor w (Phaser n (Drop t)) == a) ≡ true = ap (λ v. v == a) (sym by) ∙ eq-eqb a a refl in
      let nothing : due t w ≡ [] = no_entry_due t w (unborn_none s.limits t w st.legal unborn) in
      let own : TaskStands s.outers (Phaser n (Drop t) ∷ w) a (drop_noted k) = for_child s.outers w n t a k acting (st.tasks a) k.plan k.left apart back refl refl want in
      let child : TaskStands s.outers (Phaser n (Drop t) ∷ w) t (gone_from n (task_at s t)) = child_line s.outers w n t (task_at s t) (ap (λ v. v == t) (sym by) ∙ apart) nothing (st.tasks t) in
      elim (cases_Bool (a == u)) [
        | inl e ↦ rw (e, back) (subst (λ v. TaskStands s.outers (Phaser n (Drop t) ∷ w) v (drop_noted k)) (eqb-true a u e) own)
        | inr e ↦ rw e (elim (cases_Bool (t == u)) [
          | inl f ↦ rw f (subst (λ v. TaskStands s.outers (Phaser n (Drop t) ∷ w) v (gone_from n (task_at s t))) (eqb-true t u f) child)
          | inr f ↦ rw f (other_line u f (ap (λ v. v == u) (sym by) ∙ e))
        ])
      ]

  lines : (a : ℕ) → a ≡ actor w (Phaser n (Drop t)) → ((a == t) ≡ false → is_born t w ≡ false) → is_to_drop (task_at s a) a n t ≡ true → (u : ℕ)
      → TaskStands s.outers (Phaser n (Drop t) ∷ w) u (cond (a == u) (drop_noted (cond (t == a) (gone_from n (task_at s t)) (task_at s a))) (cond (t == u) (gone_from n (task_at s t)) (task_at s u)))
  lines a by unborn want u =
      elim (cases_Bool (a == t)) [
        | inl e ↦
            let same : a ≡ t = eqb-true a t e in
            subst (λ v. TaskStands s.outers (Phaser n (Drop t) ∷ w) u (cond (v == u) (drop_noted (cond (t == v) (gone_from n (task_at s t)) (task_at s v))) (cond (t == u) (gone_from n (task_at s t)) (task_at s u)))) (sym same)
            (own_lines (sym same ∙ by) (subst (λ v. is_to_drop (task_at s v) v n t ≡ true) same want) u)
        | inr e ↦ child_lines a by e (unborn e) want u
      ]

  -- the stories after it
  story_by : (i : ℕ) (b : Bool) → (n == i) ≡ b → cond b (with_event (story_at s n) (Dropped t)) (story_at s i) ≡ record { limits = s.limits; terms = terms_of i w; past = cond b (Dropped t ∷ phaser_past i w) (phaser_past i w) }
  story_by i true e =
      subst (λ v. with_event (story_at s n) (Dropped t) ≡ record { limits = s.limits; terms = terms_of v w; past = Dropped t ∷ phaser_past v w }) (eqb-true n i e)
      (ap (λ y. with_event y (Dropped t)) (st.phasers n).story)
  story_by i false e = (st.phasers i).story

done_is_live : (a b room : Bool) (t : ℕ) → done_result (decided (first_refusal ((NotRegistered, a) ∷ (NotNow, b) ∷ [])) false room (Dropped t)) ≡ Ok tt → a ≡ true
done_is_live true b room t e = refl
done_is_live false b room t e = absurd cc

wanted_within : (ks : List TaskState) (i a n t : ℕ) → is_to_drop (get_or ks i blank_task) a n t ≡ true → i < length ks
wanted_within [] i a n t e = absurd cc
wanted_within (k ∷ ks) zero a n t e = omega arith
wanted_within (k ∷ ks) (suc i) a n t e = omega (arith, wanted_within ks i a n t e)

-- who doesn't drop itself isn't born
dropped_unborn : (b : Bool) (t q : ℕ) → (cond b t q == t) ≡ false → b ≡ false
dropped_unborn true t q e = absurd (false≢true (sym e ∙ eq-eqb t t refl))
dropped_unborn false t q e = refl

pub drop_is_step : (s : WorldState) (n t : ℕ) → IsStep (Phaser n (Drop t)) s (drop_state s n t) (drop_answer s n t)
drop_is_step s n t = record {
  unchanged = unchanged_by (drop_result s n t) s (with_task (task_gone s n t) (dropper_at s t) (drop_noted (task_at (task_gone s n t) (dropper_at s t))));
  limits = limits_by (drop_result s n t) s (with_task (task_gone s n t) (dropper_at s t) (drop_noted (task_at (task_gone s n t) (dropper_at s t)))) refl;
  answer = λ w st. drop_answers s w n t st;
  stands = λ w st is_done.
      let e = Phaser n (Drop t) in
      let a = dropper_at s t in
      let k = task_at s a in
      let y = story_at s n in
      let ok : drop_result s n t ≡ Ok tt = made_ok (drop_result s n t) is_done in
      let parts = asked_and_done (is_to_drop k a n t) (done_result (phaser.reply y (drop_task t))) ok in
      let replied : phaser.reply y (drop_task t) ≡ done (Dropped t) = settled_as _ _ (Dropped t) parts.1 in
      let here : is_live t y.past ≡ true = done_is_live (is_live t y.past) (owes_nothing t y.past) _ t parts.1 in
      let live : is_live t (phaser_past n w) ≡ true = ap (λ (z : Story). is_live t z.past) (sym (st.phasers n).story) ∙ here in
      let known : is_registered t (phaser_past n w) ≡ true = (and_parts (is_registered t (phaser_past n w)) (not (is_dropped t (phaser_past n w))) live).0 in
      let accepted : is_made (reply s.limits w e) ≡ true = ap (λ r. is_made r) (sym (drop_answers s w n t st)) ∙ is_done in
      let in_phasers : n < length s.phasers = called_within s.limits s.phasers n (drop_task t) (λ h. absurd cc) parts.1 in
      let in_tasks : t < length s.tasks = named_within s.tasks t ((st.tasks t).named ∙ registered_named s.limits t n w st.legal known) in
      let gone = gone_from n (task_at s t) in
      let in_set : a < length (set s.tasks t gone) = omega (arith, wanted_within s.tasks a a n t parts.0, length-set s.tasks t gone) in
      let unborn : (a == t) ≡ false → is_born t w ≡ false = λ apart. sym (st.tasks t).born ∙ dropped_unborn (task_at s t).is_born t (task_at s t).spawner apart in
      let read : (u : ℕ) → get_or (set (set s.tasks t gone) a (drop_noted (task_at (task_gone s n t) a))) u blank_task ≡ cond (a == u) (drop_noted (cond (t == a) gone k)) (cond (t == u) gone (task_at s u)) =
      λ u.
      ap (λ x. get_or (set (set s.tasks t gone) a (drop_noted x)) u blank_task) (read_set s.tasks t a gone blank_task in_tasks)
      ∙ (read_set (set s.tasks t gone) a u (drop_noted (cond (t == a) gone k)) blank_task in_set ∙ ap (λ x. cond (a == u) (drop_noted (cond (t == a) gone k)) x) (read_set s.tasks t u gone blank_task in_tasks))
      in
      rw (ok, replied) (record {
        fit = st.fit;
        finishes_size = st.finishes_size;
        owners_size = st.owners_size;
        outers_size = st.outers_size;
        legal = and_from (is_accepted s.limits w e) (is_legal_world s.limits w) accepted st.legal;
        phasers = λ i. record {
          story = read_set s.phasers n i (with_event y (Dropped t)) (blank_story s.limits) in_phasers ∙ story_by s w n t st live i (n == i) refl;
          enclosing = (st.phasers i).enclosing;
        };
        finishes = λ f. record { story = (st.finishes f).story; owner = (st.finishes f).owner };
        tasks = λ u. subst (λ line. TaskStands s.outers (e ∷ w) u line) (sym (read u)) (lines s w n t st live a (dropper_is s w n t st) unborn parts.0 u);
      });
}
