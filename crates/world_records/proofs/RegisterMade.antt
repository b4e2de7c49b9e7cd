-- The registration of a child: the answer is the history's, and the world stands for what follows.
use Rattle.std.proofs.Common.{◌≡◌, ℕ, zero, suc, ◌+◌, ◌<◌, ◌≤◌, ◌==◌, Bool, true, false, ◌&&◌, nat_lt, map, drop, cond, List, [], ◌∷◌, ◌++◌, Option, Some, None, length, set, get_or, Ok, refl, sym, ap, subst, ◌∙◌, arith, inl, inr, add-one}
use Rattle.std.specs.Prelude.{slice_get}
use Rattle.std.proofs.lemmas.Bool.{cases_Bool, eqb-true, and_parts, and_from, ltb-true}
use Rattle.std.proofs.lemmas.List.{length-set}
use Rattle.phase_modes.specs.Lists.{is_empty}
use Rattle.phase_modes.specs.declared.reg.Mode.{Mode}
use Rattle.phase_modes.specs.declared.limits.Limits.{Limits}
use Rattle.phase_modes.specs.declared.phased.Pair.{Pair}
use Rattle.phase_model.specs.declared.history.Event.TheVariants.{Reg as Registered}
use Rattle.phase_model.specs.Rules.{Story, with_event}
use Rattle.phase_model.specs.Tasks.{is_dropped}
use Rattle.phase_model.specs.Replies as phaser
use Rattle.phase_model.specs.Replies.{done, done_result}
use Rattle.phase_model.specs.declared.call.Call.TheVariants.{Register as register}
use Rattle.phase_model.proofs.Legal.{RegFollows}
use Rattle.phase_model.proofs.LiveTasks.{fresh_not_dropped}
use Rattle.finish_core.specs.declared.event.FinishEvent.TheVariants.{Spawned, Ended, Shut as Shutting}
use Rattle.world_model.specs.declared.event.Step.TheVariants.{Reg, Sig, Claim, Did, Pass, Drop}
use Rattle.world_model.specs.declared.event.Begun.TheVariants.{Async}
use Rattle.world_model.specs.declared.event.WorldEvent.{WorldEvent}
use Rattle.world_model.specs.declared.event.WorldEvent.TheVariants.{Phaser, Finish, Begin}
use Rattle.world_model.specs.ActConditions.{most_phasers_held}
use Rattle.world_model.specs.Due.{due}
use Rattle.world_model.specs.Continuing.{same_event, same_mode}
use Rattle.world_model.specs.Parts.{terms_of, phaser_past}
use Rattle.world_model.specs.PartReplies.{phaser_reply}
use Rattle.world_model.specs.Replies.{reply, is_made, is_accepted, is_legal_world}
use Rattle.world_model.specs.Scopes.{open_finishes}
use Rattle.world_model.specs.TaskConditions.{last_entry}
use Rattle.world_model.specs.Tasks.{phasers_of, is_born}
use Rattle.world_model.proofs.AbleComputed.{same_modes}
use Rattle.world_model.proofs.BornWhereNamed.{unborn_child}
use Rattle.world_model.proofs.HeldAreFew.{reg_finds, fewer_than_parent, phasers_held_are_few}
use Rattle.world_model.proofs.NewlyJoined.{own_joined}
use Rattle.world_model.proofs.OthersLeave.{due_other, due_own}
use Rattle.world_model.proofs.PassesInTurns.{unborn_none, no_entry_due}
use Rattle.world_model.proofs.PhasersLegal.{phasers_legal}
use Rattle.world_model.proofs.PhasersOnce.{joins, joined_once}
use Rattle.world_model.proofs.SmallWords.{eq_self}
use Rattle.world_model.proofs.SpawnUnderWay.{begins_spawn, named_by_spawn}
use Rattle.world_model.proofs.UntouchedStays.{phasers_same}
use Rattle.world_records.specs.declared.plan.Plan.{Plan}
use Rattle.world_records.specs.declared.plan.Plan.TheVariants as plan
use Rattle.world_records.specs.TaskState.{TaskState}
use Rattle.world_records.specs.WorldState.{WorldState}
use Rattle.world_records.specs.Kept.{blank_task, blank_story, task_at, story_at, is_idle_plan}
use Rattle.world_records.proofs.LimitsStay.{limits_by}
use Rattle.world_records.specs.StandsFor.{TaskStands, StandsFor, IsStep, due_by, inner_of, end_of}
use Rattle.world_records.specs.Plans.{fits_plan}
use Rattle.world_records.specs.inner.Steps.{done_by, with_task}
use Rattle.world_records.specs.inner.RegisterSteps.{is_pair, wants_register, is_to_register, has_place, register_result, register_answer, register_state, joining, register_noted, to_next_pair, child_joined}
use Rattle.world_records.proofs.TableReads.{read_set}
use Rattle.world_records.proofs.NextOf.{is_next}
use Rattle.world_records.proofs.Outcomes.{idle_plan, made_ok, unchanged_by, asked_and_done, settled_as, done_as, answer_by, called_within, named_within, swapped}
use Rattle.world_records.proofs.Joins.{other_stands}

never : (a : Bool) → (a && false) ≡ false
never true = refl
never false = refl

moved : (a b c q : Bool) → q ≡ true → ((a && b) && c) ≡ (a && ((q && c) && b))
moved true true true q e = rw e refl
moved true true false q e = rw e refl
moved true false true q e = rw e refl
moved true false false q e = rw e refl
moved false b c q e = refl

module _ (l : Limits) (w : List WorldEvent) (n q c : ℕ) (m : Mode) where
  -- events of another kind
  none_of : (h : ℕ → WorldEvent) → ((i : ℕ) → is_next l w (h i ∷ []) n (Reg q c m) ≡ false) → (ns : List ℕ) (rest : List WorldEvent)
      → is_next l w rest n (Reg q c m) ≡ false → is_next l w (map h ns ++ rest) n (Reg q c m) ≡ false
  none_of h other [] rest e = e
  none_of h other (i ∷ ns) rest e = other i

  pass_by : (a b : Bool) (i : ℕ) → same_event (cond a (Phaser i (Claim q)) (cond b (Phaser i (Did q)) (Phaser i (Pass q)))) (Phaser n (Reg q c m)) ≡ false
  pass_by true b i = never (i == n)
  pass_by false true i = never (i == n)
  pass_by false false i = never (i == n)

  passes_are_none : (ns : List ℕ) → is_next l w (map (λ i. Phaser i (Pass q)) ns) n (Reg q c m) ≡ false
  passes_are_none [] = refl
  passes_are_none (i ∷ ns) = pass_by _ _ i

  end_by : (b : Bool) (h : ℕ) → is_next l w (cond b (Finish 0 Shutting) (Finish h (Ended q)) ∷ []) n (Reg q c m) ≡ false
  end_by true h = refl
  end_by false h = refl

  at_pair : (d g made : ℕ) (ps : List Pair)
      → (is_pair (slice_get ps made) n m && d == c) ≡ is_next l w (map (λ p. Phaser p.phaser (Reg q d p.mode)) (drop made ps) ++ Finish g (Spawned d) ∷ []) n (Reg q c m)
  at_pair d g zero [] = refl
  at_pair d g zero (p ∷ ps) = moved (p.phaser == n) (same_mode p.mode m) (d == c) (q == q) (eq_self q)
  at_pair d g (suc made) [] = refl
  at_pair d g (suc made) (p ∷ ps) = at_pair d g made ps

  -- the plan wants the registration where it is the next event of the history
  wanted_is_next : (k : TaskState) (fs : List ℕ) (p : Plan) → wants_register p n c m ≡ is_next l w (due_by q k fs p) n (Reg q c m)
  wanted_is_next k fs plan.Idle = refl
  wanted_is_next k fs (plan.Signalling x true) = sym (none_of (λ i. Phaser i (Sig q x)) (λ i. never (i == n)) k.left (map (λ i. Phaser i (Pass q)) k.phasers) (passes_are_none k.phasers))
  wanted_is_next k fs (plan.Signalling x false) = sym (none_of (λ i. Phaser i (Sig q x)) (λ i. never (i == n)) k.left [] refl)
  wanted_is_next k fs plan.Turning = sym (passes_are_none k.left)
  wanted_is_next k fs (plan.Spawning d pairs made) = at_pair d (inner_of k fs) made pairs
  wanted_is_next k fs plan.Shutting = sym (none_of (λ i. Phaser i (Drop q)) (λ i. never (i == n)) k.left (Finish (inner_of k fs) Shutting ∷ []) refl)
  wanted_is_next k fs (plan.Ending d) =
      let shuts = map (λ f. Finish f Shutting) fs ++ end_of q k ∷ [] in
      sym (none_of (λ i. Phaser i (Drop d)) (λ i. never (i == n)) k.left (map (λ i. Phaser i (Drop q)) k.phasers ++ shuts)
      (none_of (λ i. Phaser i (Drop q)) (λ i. never (i == n)) k.phasers shuts
      (none_of (λ f. Finish f Shutting) (λ f. refl) fs (end_of q k ∷ []) (end_by (q == 0) k.home))))

-- a plan that wants to register c on phaser n in mode m
record IsAtPair (p : Plan) (n c : ℕ) (m : Mode) : Type 0 where
  pairs : List Pair
  made : ℕ
  is : p ≡ plan.Spawning c pairs made
  first : drop made pairs ≡ record { phaser = n; mode = m } ∷ drop (made + 1) pairs
  below : nat_lt made (length pairs) ≡ true

abbrev pair_of : ℕ → Mode → Pair
pair_of n m = record { phaser = n; mode = m }

pair_is : (p : Pair) (n : ℕ) (m : Mode) → is_pair (Some p) n m ≡ true → p ≡ record { phaser = n; mode = m }
pair_is p n m e =
    let a = and_parts (p.phaser == n) (same_mode p.mode m) e in
    let number : p.phaser ≡ n = eqb-true p.phaser n a.0 in
    let mode : p.mode ≡ m = same_modes p.mode m a.1 in
    ap (λ i. pair_of i p.mode) number ∙ ap (λ x. pair_of n x) mode

first_pair : (n : ℕ) (m : Mode) (made : ℕ) (ps : List Pair) → is_pair (slice_get ps made) n m ≡ true
    → (drop made ps ≡ record { phaser = n; mode = m } ∷ drop (suc made) ps) × (made < length ps)
first_pair n m zero [] e = absurd cc
first_pair n m zero (p ∷ ps) e = (ap (λ x. x ∷ ps) (pair_is p n m e), omega arith)
first_pair n m (suc made) [] e = absurd cc
first_pair n m (suc made) (p ∷ ps) e =
    let r = first_pair n m made ps e in
    (r.0, omega (arith, r.1))

is_below : (a b : ℕ) → a < b → nat_lt a b ≡ true
is_below a b h = grind (arith, h)

at_its_pair : (p : Plan) (n c : ℕ) (m : Mode) → wants_register p n c m ≡ true → IsAtPair p n c m
at_its_pair (plan.Spawning d pairs made) n c m e =
    let a = and_parts (is_pair (slice_get pairs made) n m) (d == c) e in
    let r = first_pair n m made pairs a.0 in
    record {
      pairs = pairs;
      made = made;
      is = ap (λ x. plan.Spawning x pairs made) (eqb-true d c a.1);
      first = subst (λ i. drop made pairs ≡ record { phaser = n; mode = m } ∷ drop i pairs) (sym (add-one made)) r.0;
      below = is_below made (length pairs) r.1;
    }
at_its_pair plan.Idle n c m e = absurd cc
at_its_pair (plan.Signalling x turn) n c m e = absurd cc
at_its_pair plan.Turning n c m e = absurd cc
at_its_pair plan.Shutting n c m e = absurd cc
at_its_pair (plan.Ending d) n c m e = absurd cc

fits_begun : (c : ℕ) (pairs : List Pair) (made : ℕ) (o : Option WorldEvent) → fits_plan (plan.Spawning c pairs made) o ≡ true → begins_spawn c o ≡ true
fits_begun c pairs made (Some (Begin u (Async d ps))) e = swapped c d true e
fits_begun c pairs made (Some (Begin u b)) e = absurd cc
fits_begun c pairs made (Some (Phaser i x)) e = absurd cc
fits_begun c pairs made (Some (Finish g x)) e = absurd cc
fits_begun c pairs made (Some e1) e = absurd cc
fits_begun c pairs made None e = absurd cc

-- the plan's place doesn't matter to the entry that it fits
fits_later : (c : ℕ) (pairs : List Pair) (made later : ℕ) (o : Option WorldEvent) → fits_plan (plan.Spawning c pairs made) o ≡ true → fits_plan (plan.Spawning c pairs later) o ≡ true
fits_later c pairs made later (Some (Begin u (Async d ps))) e = e
fits_later c pairs made later (Some (Begin u b)) e = absurd cc
fits_later c pairs made later (Some (Phaser i x)) e = absurd cc
fits_later c pairs made later (Some (Finish g x)) e = absurd cc
fits_later c pairs made later (Some e1) e = absurd cc
fits_later c pairs made later None e = absurd cc

and_within : (a b : Bool) → (a ≡ true → b ≡ true) → (a && b) ≡ a
and_within true b e = e refl
and_within false b e = refl

not_empty : (xs : List WorldEvent) (y : WorldEvent) → is_empty (xs ++ y ∷ []) ≡ false
not_empty [] y = refl
not_empty (x ∷ xs) y = refl

module _ (s : WorldState) (w : List WorldEvent) (n q c : ℕ) (m : Mode) (st : StandsFor w s) where
  to_is : is_to_register (task_at s q) n c m ≡ is_next s.limits w (due q w) n (Reg q c m)
  to_is =
      let k = task_at s q in
      wanted_is_next s.limits w n q c m k (open_finishes q w) k.plan ∙ ap (λ ds. is_next s.limits w ds n (Reg q c m)) (sym (st.tasks q).due_is)

  begins : is_to_register (task_at s q) n c m ≡ true → begins_spawn c (last_entry q w) ≡ true
  begins e =
      let p = at_its_pair (task_at s q).plan n c m e in
      fits_begun c p.pairs p.made (last_entry q w) (ap (λ x. fits_plan x (last_entry q w)) (sym p.is) ∙ (st.tasks q).plan)

  -- what is due: the registration, and then the pairs that come after it
  is_due : (p : IsAtPair (task_at s q).plan n c m)
      → due q w ≡ Phaser n (Reg q c m) ∷ (map (λ x. Phaser x.phaser (Reg q c x.mode)) (drop (p.made + 1) p.pairs) ++ Finish (inner_of (task_at s q) (open_finishes q w)) (Spawned c) ∷ [])
  is_due p =
      let k = task_at s q in
      let fs = open_finishes q w in
      (st.tasks q).due_is ∙ (ap (λ x. due_by q k fs x) p.is
      ∙ ap (λ ps. map (λ x. Phaser x.phaser (Reg q c x.mode)) ps ++ Finish (inner_of k fs) (Spawned c) ∷ []) p.first)

  placed : is_to_register (task_at s q) n c m ≡ true → has_place s c ≡ true
  placed e =
      let p = at_its_pair (task_at s q).plan n c m e in
      let begun = begins e in
      let few : length (phasers_of c w) + 1 ≤ length (phasers_of q w) =
      fewer_than_parent s.limits q c w (map (λ x. Phaser x.phaser (Reg q c x.mode)) (drop (p.made + 1) p.pairs) ++ Finish (inner_of (task_at s q) (open_finishes q w)) (Spawned c) ∷ []) n m st.legal begun (is_due p)
      in
      let most : length (phasers_of q w) ≤ 16 = phasers_held_are_few s.limits w st.legal q in
      let here : length (task_at s c).phasers ≡ length (phasers_of c w) = ap (λ (ns : List ℕ). length ns) (st.tasks c).phasers in
      let room : length (task_at s c).phasers < 16 = omega (arith, few, most, here) in
      let within : c < length s.tasks = named_within s.tasks c ((st.tasks c).named ∙ (named_by_spawn s.limits q c w st.legal begun).0) in
      and_from (nat_lt c (length s.tasks)) (nat_lt (length (task_at s c).phasers) most_phasers_held) (is_below c (length s.tasks) within) (is_below (length (task_at s c).phasers) 16 room)

  pub register_answers : register_answer s n q c m ≡ reply s.limits w (Phaser n (Reg q c m))
  register_answers =
      let all : (is_to_register (task_at s q) n c m && has_place s c) ≡ is_to_register (task_at s q) n c m = and_within _ _ placed in
      let story : done_by (done_result (phaser.reply (story_at s n) (register q c m))) ≡ phaser_reply s.limits w n (Reg q c m) =
      ap (λ y. done_by (done_result (phaser.reply y (register q c m)))) (st.phasers n).story ∙ done_as (phaser_past n w) _ _ (Registered q c m) refl
      in
      answer_by (is_to_register (task_at s q) n c m && has_place s c) (is_next s.limits w (due q w) n (Reg q c m)) (phaser_reply s.limits w n (Reg q c m)) (done_result (phaser.reply (story_at s n) (register q c m))) (all ∙ to_is) story

module _ (outers : List (Option ℕ)) (w : List WorldEvent) (n q c : ℕ) (m : Mode) where
  -- the line of the task that registers its child
  parent_line : (k : TaskState) (p : IsAtPair k.plan n c m) → (c == q) ≡ false
      → due q w ≡ Phaser n (Reg q c m) ∷ (map (λ x. Phaser x.phaser (Reg q c x.mode)) (drop (p.made + 1) p.pairs) ++ Finish (inner_of k (open_finishes q w)) (Spawned c) ∷ [])
      → TaskStands outers w q k → TaskStands outers (Phaser n (Reg q c m) ∷ w) q (register_noted k)
  parent_line k p other here st =
      let e = Phaser n (Reg q c m) in
      let rest = map (λ x. Phaser x.phaser (Reg q c x.mode)) (drop (p.made + 1) p.pairs) in
      let last = Finish (inner_of k (open_finishes q w)) (Spawned c) in
      let after : due q (e ∷ w) ≡ rest ++ last ∷ [] = due_own q e w refl (eq_self q) refl ∙ ap (λ ds. drop 1 ds) here in
      let plan_is : to_next_pair k.plan ≡ plan.Spawning c p.pairs (p.made + 1) =
      ap (λ x. to_next_pair x) p.is ∙ ap (λ b. plan.Spawning c p.pairs (cond b (p.made + 1) p.made)) p.below
      in
      subst (λ x. TaskStands outers (e ∷ w) q (record k { plan = x })) (sym plan_is)
      (record {
        due_is = after;
        idle = sym (ap (λ ds. is_empty ds) after ∙ not_empty rest last);
        plan = fits_later c p.pairs p.made (p.made + 1) (last_entry q w) (ap (λ x. fits_plan x (last_entry q w)) (sym p.is) ∙ st.plan);
        left = refl;
        chain = st.chain;
        phasers = st.phasers ∙ sym (phasers_same q e w other);
        clock = st.clock;
        acts = st.acts;
        home = st.home;
        spawner = st.spawner;
        named = st.named;
        born = st.born;
        ended = st.ended;
        refused = st.refused;
      })

  -- the child's line
  child_line : (k : TaskState) → (q == c) ≡ false → due c w ≡ [] → phasers_of c (Phaser n (Reg q c m) ∷ w) ≡ phasers_of c w ++ n ∷ []
      → TaskStands outers w c k → TaskStands outers (Phaser n (Reg q c m) ∷ w) c (joining n k)
  child_line k apart nothing joined st =
      let e = Phaser n (Reg q c m) in
      let same : due c (e ∷ w) ≡ [] = due_other c e w apart ∙ nothing in
      let idle : is_idle_plan k.plan ≡ true = st.idle ∙ ap (λ ds. is_empty ds) nothing in
      let plain : k.plan ≡ plan.Idle = idle_plan k.plan idle in
      record {
        due_is = rw plain same;
        idle = idle ∙ ap (λ ds. is_empty ds) (sym same);
        plan = st.plan;
        left = st.left;
        chain = st.chain;
        phasers = ap (λ ns. ns ++ n ∷ []) st.phasers ∙ sym joined;
        clock = st.clock;
        acts = st.acts;
        home = st.home;
        spawner = st.spawner;
        named = st.named;
        born = st.born;
        ended = st.ended;
        refused = st.refused;
      }

-- where it is made, the child comes to the phaser
child_joins : (l : Limits) (w : List WorldEvent) (n q c : ℕ) (m : Mode) → is_legal_world l w ≡ true → is_accepted l w (Phaser n (Reg q c m)) ≡ true
    → phasers_of c (Phaser n (Reg q c m) ∷ w) ≡ phasers_of c w ++ n ∷ []
child_joins l w n q c m k a =
    let f : RegFollows l (phaser_past n w) q c m = reg_finds l w n q c m a in
    let gone : is_dropped c (phaser_past n w) ≡ false = fresh_not_dropped l (terms_of n w) (phaser_past n w) c (phasers_legal l w k n) f.unknown in
    let none : joins c n w ≡ 0 = joined_once l w k c n ∙ ap (λ b. cond b 1 0) f.unknown in
    own_joined c n (Reg q c m) w (rw (eq_self c) refl) (rw (eq_self n, eq_self c, gone) refl) none

-- the stories of the phasers after it
story_by : (l : Limits) (n q c i : ℕ) (m : Mode) (w : List WorldEvent) (here there : Story) (b : Bool) → (n == i) ≡ b
    → here ≡ record { limits = l; terms = terms_of n w; past = phaser_past n w } → there ≡ record { limits = l; terms = terms_of i w; past = phaser_past i w }
    → cond b (with_event here (Registered q c m)) there ≡ record { limits = l; terms = terms_of i w; past = cond b (Registered q c m ∷ phaser_past i w) (phaser_past i w) }
story_by l n q c i m w here there true e h k =
    subst (λ v. with_event here (Registered q c m) ≡ record { limits = l; terms = terms_of v w; past = Registered q c m ∷ phaser_past v w }) (eqb-true n i e)
    (ap (λ y. with_event y (Registered q c m)) h)
story_by l n q c i m w here there false e h k = k

wanted_within : (ks : List TaskState) (q n c : ℕ) (m : Mode) → is_to_register (get_or ks q blank_task) n c m ≡ true → q < length ks
wanted_within [] q n c m e = absurd cc
wanted_within (k ∷ ks) zero n c m e = omega arith
wanted_within (k ∷ ks) (suc q) n c m e = omega (arith, wanted_within ks q n c m e)

-- who has something to make isn't who has nothing
not_same : (w : List WorldEvent) (q c : ℕ) (d : WorldEvent) (ds : List WorldEvent) → due q w ≡ d ∷ ds → due c w ≡ [] → (q == c) ≡ false
not_same w q c d ds some none =
    elim (cases_Bool (q == c)) [
      | inl e ↦ absurd (differ (sym some ∙ (ap (λ v. due v w) (eqb-true q c e) ∙ none)))
      | inr e ↦ e
    ]
  where
    differ : d ∷ ds ≡ [] → ⊥
    differ h = absurd cc

pub register_is_step : (s : WorldState) (n q c : ℕ) (m : Mode) → IsStep (Phaser n (Reg q c m)) s (register_state s n q c m) (register_answer s n q c m)
register_is_step s n q c m = record {
  unchanged = unchanged_by (register_result s n q c m) s (with_task (child_joined s n q c m) q (register_noted (task_at (child_joined s n q c m) q)));
  limits = limits_by (register_result s n q c m) s (with_task (child_joined s n q c m) q (register_noted (task_at (child_joined s n q c m) q))) refl;
  answer = λ w st. register_answers s w n q c m st;
  stands = λ w st is_done.
      let e = Phaser n (Reg q c m) in
      let k = task_at s q in
      let y = story_at s n in
      let ok : register_result s n q c m ≡ Ok tt = made_ok (register_result s n q c m) is_done in
      let parts = asked_and_done (is_to_register k n c m && has_place s c) (done_result (phaser.reply y (register q c m))) ok in
      let asked = and_parts (is_to_register k n c m) (has_place s c) parts.0 in
      let place = and_parts (nat_lt c (length s.tasks)) (nat_lt (length (task_at s c).phasers) most_phasers_held) asked.1 in
      let replied : phaser.reply y (register q c m) ≡ done (Registered q c m) = settled_as _ _ (Registered q c m) parts.1 in
      let accepted : is_accepted s.limits w e ≡ true = ap (λ r. is_made r) (sym (register_answers s w n q c m st)) ∙ is_done in
      let p = at_its_pair k.plan n c m asked.0 in
      let here = is_due s w n q c m st p in
      let unborn : is_born c w ≡ false = unborn_child s.limits q c w st.legal (begins s w n q c m st asked.0) (ap (λ ds. is_empty ds) here) in
      let nothing : due c w ≡ [] = no_entry_due c w (unborn_none s.limits c w st.legal unborn) in
      let apart : (q == c) ≡ false = not_same w q c _ _ here nothing in
      let back : (c == q) ≡ false = swapped q c false apart in
      let in_phasers : n < length s.phasers = called_within s.limits s.phasers n (register q c m) (λ h. absurd cc) parts.1 in
      let in_tasks : c < length s.tasks = ltb-true c (length s.tasks) place.0 in
      let child = joining n (task_at s c) in
      let in_set : q < length (set s.tasks c child) = omega (arith, wanted_within s.tasks q n c m asked.0, length-set s.tasks c child) in
      let same_line : task_at (child_joined s n q c m) q ≡ k = read_set s.tasks c q child blank_task in_tasks ∙ ap (λ b. cond b child k) back in
      let own : TaskStands s.outers (e ∷ w) q (register_noted k) = parent_line s.outers w n q c m k p back here (st.tasks q) in
      let joined : TaskStands s.outers (e ∷ w) c child =
      child_line s.outers w n q c m (task_at s c) apart nothing (child_joins s.limits w n q c m st.legal accepted) (st.tasks c)
      in
      let rest : (u : ℕ) → (q == u) ≡ false → TaskStands s.outers (e ∷ w) u (cond (c == u) child (task_at s u)) =
      λ u other. elim (cases_Bool (c == u)) [
        | inl z ↦ rw z (subst (λ v. TaskStands s.outers (e ∷ w) v child) (eqb-true c u z) joined)
        | inr z ↦ rw z (other_stands s.outers w u n (task_at s u) (Reg q c m) other (phasers_same u e w z) refl (st.tasks u))
      ]
      in
      let all : (u : ℕ) → TaskStands s.outers (e ∷ w) u (cond (q == u) (register_noted k) (cond (c == u) child (task_at s u))) =
      λ u. elim (cases_Bool (q == u)) [
        | inl z ↦ rw z (subst (λ v. TaskStands s.outers (e ∷ w) v (register_noted k)) (eqb-true q u z) own)
        | inr z ↦ rw z (rest u z)
      ]
      in
      let lines : (u : ℕ) → get_or (set (set s.tasks c child) q (register_noted (task_at (child_joined s n q c m) q))) u blank_task ≡ cond (q == u) (register_noted k) (cond (c == u) child (task_at s u)) =
      λ u.
      ap (λ x. get_or (set (set s.tasks c child) q (register_noted x)) u blank_task) same_line
      ∙ (read_set (set s.tasks c child) q u (register_noted k) blank_task in_set ∙ ap (λ x. cond (q == u) (register_noted k) x) (read_set s.tasks c u child blank_task in_tasks))
      in
      rw (ok, replied) (record {
        fit = st.fit;
        finishes_size = st.finishes_size;
        owners_size = st.owners_size;
        outers_size = st.outers_size;
        legal = and_from (is_accepted s.limits w e) (is_legal_world s.limits w) accepted st.legal;
        phasers = λ i. record {
          story = read_set s.phasers n i (with_event y (Registered q c m)) (blank_story s.limits) in_phasers ∙ story_by s.limits n q c i m w y (story_at s i) (n == i) refl (st.phasers n).story (st.phasers i).story;
          enclosing = (st.phasers i).enclosing;
        };
        finishes = λ f. record { story = (st.finishes f).story; owner = (st.finishes f).owner };
        tasks = λ u. subst (λ line. TaskStands s.outers (e ∷ w) u line) (sym (lines u)) (all u);
      });
}
