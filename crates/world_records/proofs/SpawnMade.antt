-- The spawn of a child: the answer is the history's, and the world stands for what follows.
use Rattle.std.proofs.Common.{◌≡◌, ℕ, zero, suc, ◌<◌, ◌==◌, Bool, true, false, ◌&&◌, ◌||◌, not, nat_lt, min, map, drop, cond, List, [], ◌∷◌, ◌++◌, Option, Some, None, length, set, get_or, Result, Ok, Err, refl, sym, ap, subst, ◌∙◌, arith, inl, inr}
use Rattle.std.specs.Prelude.{filter_map, slice_get, option_map}
use Rattle.std.specs.List.{list_any}
use Rattle.std.specs.Option.{option_map_or}
use Rattle.std.proofs.lemmas.Bool.{cases_Bool, eq-eqb, eqb-true, and_parts, and_from, ltb-true}
use Rattle.std.proofs.lemmas.List.{length-set}
use Rattle.phase_modes.specs.Lists.{is_empty}
use Rattle.phase_modes.specs.declared.limits.Limits.{Limits}
use Rattle.phase_modes.specs.declared.phased.Pair.{Pair}
use Rattle.phase_modes.specs.declared.refusal.Refusal.{Refusal}
use Rattle.phase_modes.specs.declared.refusal.Refusal.TheVariants.{NotNow, TasksFull}
use Rattle.phase_modes.specs.Refusal.{first_refusal}
use Rattle.finish_core.specs.declared.event.FinishEvent.{FinishEvent}
use Rattle.finish_core.specs.declared.event.FinishEvent.TheVariants.{Spawned, Ended, Shut as Shutting}
use Rattle.finish_core.specs.Finish.{FinishStory, fresh, is_open, is_spawned, shuts}
use Rattle.finish_core.specs.Replies as finish
use Rattle.finish_core.specs.Replies.{reply as answer}
use Rattle.world_model.specs.declared.event.Step.TheVariants.{Reg, Sig, Claim, Did, Pass, Drop}
use Rattle.world_model.specs.declared.event.Begun.TheVariants.{Async}
use Rattle.world_model.specs.declared.event.WorldEvent.{WorldEvent}
use Rattle.world_model.specs.declared.event.WorldEvent.TheVariants.{Phaser, Finish, Begin}
use Rattle.world_records.specs.declared.plan.Plan.{Plan}
use Rattle.world_records.specs.declared.plan.Plan.TheVariants as plan
use Rattle.world_records.specs.TaskState.{TaskState}
use Rattle.world_records.specs.WorldState.{WorldState}
use Rattle.world_records.specs.Kept.{blank_task, task_at, finish_at, is_idle_plan, inner_at}
use Rattle.world_model.specs.Parts.{finish_past}
use Rattle.world_model.specs.Scopes.{open_finishes, opened_by}
use Rattle.world_model.specs.Tasks.{spawner, is_born}
use Rattle.world_model.specs.Due.{due, or_single}
use Rattle.world_model.specs.Clock.{clock}
use Rattle.world_model.specs.TaskConditions.{last_entry}
use Rattle.world_model.specs.Continuing.{same_event}
use Rattle.world_model.specs.PartReplies.{finish_returned}
use Rattle.world_model.specs.Replies.{reply, is_made, is_accepted, is_legal_world}
use Rattle.world_records.specs.inner.Steps.{done_by, state_by, with_task}
use Rattle.world_records.specs.inner.SpawnSteps.{wants_spawn, is_to_spawn, spawner_at, spawn_wanted, spawn_result, spawn_answer, spawn_state, born_in, spawn_noted, child_born}
use Rattle.world_records.proofs.LimitsStay.{limits_by}
use Rattle.world_records.specs.StandsFor.{TaskStands, StandsFor, IsStep, due_by, inner_of, end_of}
use Rattle.world_records.specs.Plans.{fits_plan, has_left}
use Rattle.world_model.proofs.OthersLeave.{due_other, due_own}
use Rattle.world_records.proofs.TableReads.{read_set}
use Rattle.world_model.proofs.SpawnUnderWay.{begins_spawn, named_by_spawn}
use Rattle.world_model.proofs.BornWhereNamed.{unborn_child}
use Rattle.world_model.proofs.PassesInTurns.{unborn_none, no_entry_due}
use Rattle.world_records.proofs.Joins.{filter_same, inner_by}

never : (a : Bool) → (a && false) ≡ false
never true = refl
never false = refl

-- the first event due, as the spawn of c
abbrev is_next_spawn : Limits → List WorldEvent → List WorldEvent → ℕ → ℕ → Bool
is_next_spawn l w ds f c = option_map_or (λ d. same_event d (Finish f (Spawned c))) (option_map (or_single l w) (slice_get ds 0)) false

module _ (l : Limits) (w : List WorldEvent) (f c : ℕ) where
  -- events of another kind
  none_of : (h : ℕ → WorldEvent) → ((m : ℕ) → same_event (or_single l w (h m)) (Finish f (Spawned c)) ≡ false) → (ns : List ℕ) (rest : List WorldEvent) → is_next_spawn l w rest f c ≡ false → is_next_spawn l w (map h ns ++ rest) f c ≡ false
  none_of h other [] rest e = e
  none_of h other (m ∷ ns) rest e = other m

  pass_by : (a b : Bool) (m t : ℕ) → same_event (cond a (Phaser m (Claim t)) (cond b (Phaser m (Did t)) (Phaser m (Pass t)))) (Finish f (Spawned c)) ≡ false
  pass_by true b m t = refl
  pass_by false true m t = refl
  pass_by false false m t = refl

  passes_are_none : (t : ℕ) (ns : List ℕ) → is_next_spawn l w (map (λ m. Phaser m (Pass t)) ns) f c ≡ false
  passes_are_none t [] = refl
  passes_are_none t (m ∷ ns) = pass_by _ _ m t

  end_by : (b : Bool) (h t : ℕ) → is_next_spawn l w (cond b (Finish 0 Shutting) (Finish h (Ended t)) ∷ []) f c ≡ false
  end_by true h t = never (0 == f)
  end_by false h t = never (h == f)

  spawn_by : (t d g : ℕ) (ps : List Pair) → (is_empty ps && (g == f && d == c)) ≡ is_next_spawn l w (map (λ p. Phaser p.phaser (Reg t d p.mode)) ps ++ Finish g (Spawned d) ∷ []) f c
  spawn_by t d g [] = refl
  spawn_by t d g (p ∷ ps) = refl

  all_dropped : (made : ℕ) (pairs : List Pair) → not (nat_lt made (length pairs)) ≡ is_empty (drop made pairs)
  all_dropped zero [] = refl
  all_dropped (suc made) [] = grind arith
  all_dropped zero (p ∷ ps) = grind arith
  all_dropped (suc made) (p ∷ ps) =
      let below : nat_lt (suc made) (length (p ∷ ps)) ≡ nat_lt made (length ps) = grind arith in
      ap (λ b. not b) below ∙ all_dropped made ps

  -- the plan wants the spawn where it is the next event of the history
  wanted_is_next : (t : ℕ) (k : TaskState) (fs : List ℕ) (p : Plan) → wants_spawn p (inner_of k fs) f c ≡ is_next_spawn l w (due_by t k fs p) f c
  wanted_is_next t k fs plan.Idle = refl
  wanted_is_next t k fs (plan.Signalling x true) = sym (none_of (λ n. Phaser n (Sig t x)) (λ m. refl) k.left (map (λ n. Phaser n (Pass t)) k.phasers) (passes_are_none t k.phasers))
  wanted_is_next t k fs (plan.Signalling x false) = sym (none_of (λ n. Phaser n (Sig t x)) (λ m. refl) k.left [] refl)
  wanted_is_next t k fs plan.Turning = sym (passes_are_none t k.left)
  wanted_is_next t k fs (plan.Spawning d pairs made) =
      ap (λ b. b && (inner_of k fs == f && d == c)) (all_dropped made pairs) ∙ spawn_by t d (inner_of k fs) (drop made pairs)
  wanted_is_next t k fs plan.Shutting = sym (none_of (λ n. Phaser n (Drop t)) (λ m. refl) k.left (Finish (inner_of k fs) Shutting ∷ []) (never (inner_of k fs == f)))
  wanted_is_next t k fs (plan.Ending d) =
      sym (none_of (λ n. Phaser n (Drop d)) (λ m. refl) k.left (map (λ n. Phaser n (Drop t)) k.phasers ++ (map (λ g. Finish g Shutting) fs ++ end_of t k ∷ []))
      (none_of (λ n. Phaser n (Drop t)) (λ m. refl) k.phasers (map (λ g. Finish g Shutting) fs ++ end_of t k ∷ [])
      (none_of (λ g. Finish g Shutting) (λ g. never (g == f)) fs (end_of t k ∷ []) (end_by (t == 0) k.home t))))

-- a plan that wants the spawn of c
record IsSpawning (p : Plan) (c : ℕ) : Type 0 where
  pairs : List Pair
  made : ℕ
  is : p ≡ plan.Spawning c pairs made
  over : not (nat_lt made (length pairs)) ≡ true

spawning : (p : Plan) (i f c : ℕ) → wants_spawn p i f c ≡ true → IsSpawning p c
spawning (plan.Spawning d pairs made) i f c e =
    let a = and_parts (not (nat_lt made (length pairs))) (i == f && d == c) e in
    let same : d ≡ c = eqb-true d c (and_parts (i == f) (d == c) a.1).1 in
    record { pairs = pairs; made = made; is = ap (λ x. plan.Spawning x pairs made) same; over = a.0 }
spawning plan.Idle i f c e = absurd cc
spawning (plan.Signalling x turn) i f c e = absurd cc
spawning plan.Turning i f c e = absurd cc
spawning plan.Shutting i f c e = absurd cc
spawning (plan.Ending d) i f c e = absurd cc

swapped : (a b : ℕ) (x : Bool) → (a == b) ≡ x → (b == a) ≡ x
swapped a b x h = grind arith

fits_spawn : (c : ℕ) (pairs : List Pair) (made : ℕ) (o : Option WorldEvent) → fits_plan (plan.Spawning c pairs made) o ≡ true → begins_spawn c o ≡ true
fits_spawn c pairs made (Some (Begin u (Async d ps))) e = swapped c d true e
fits_spawn c pairs made (Some (Begin u b)) e = absurd cc
fits_spawn c pairs made (Some (Phaser n x)) e = absurd cc
fits_spawn c pairs made (Some (Finish g x)) e = absurd cc
fits_spawn c pairs made (Some e1) e = absurd cc
fits_spawn c pairs made None e = absurd cc

named_within : (ks : List TaskState) (c : ℕ) → (get_or ks c blank_task).is_named ≡ true → c < length ks
named_within [] c e = absurd cc
named_within (k ∷ ks) zero e = omega arith
named_within (k ∷ ks) (suc c) e = omega (arith, named_within ks c e)

wanted_within : (ks : List TaskState) (t f c : ℕ) → is_to_spawn (get_or ks t blank_task) f c ≡ true → t < length ks
wanted_within [] t f c e = absurd cc
wanted_within (k ∷ ks) zero f c e = omega arith
wanted_within (k ∷ ks) (suc t) f c e = omega (arith, wanted_within ks t f c e)

no_pairs : (xs : List Pair) (t c g : ℕ) → is_empty xs ≡ true → map (λ p. Phaser p.phaser (Reg t c p.mode)) xs ++ Finish g (Spawned c) ∷ [] ≡ Finish g (Spawned c) ∷ []
no_pairs [] t c g e = refl
no_pairs (p ∷ ps) t c g e = absurd cc

and_within : (a b : Bool) → (a ≡ true → b ≡ true) → (a && b) ≡ a
and_within true b e = e refl
and_within false b e = refl

answer_by : (b d : Bool) (u : Result (Unit {0}) Refusal) → b ≡ d → done_by (cond b u (Err NotNow)) ≡ cond d (finish_returned u) (Err NotNow)
answer_by true true (Ok u) e = refl
answer_by true true (Err r) e = refl
answer_by false false u e = refl
answer_by true false u e = absurd cc
answer_by false true u e = absurd cc

module _ (s : WorldState) (w : List WorldEvent) (f c : ℕ) (st : StandsFor w s) where
  asker_is : spawner_at s c ≡ spawner c w
  asker_is = (st.tasks c).spawner

  to_is : is_to_spawn (task_at s (spawner_at s c)) f c ≡ is_next_spawn s.limits w (due (spawner_at s c) w) f c
  to_is =
      let q = spawner_at s c in
      let k = task_at s q in
      let line = st.tasks q in
      ap (λ i. wants_spawn k.plan i f c) (inner_by s.outers k.innermost (open_finishes q w) k.home line.chain)
      ∙ (wanted_is_next s.limits w f c q k (open_finishes q w) k.plan ∙ ap (λ ds. is_next_spawn s.limits w ds f c) (sym line.due_is))

  begins : is_to_spawn (task_at s (spawner_at s c)) f c ≡ true → begins_spawn c (last_entry (spawner_at s c) w) ≡ true
  begins e =
      let q = spawner_at s c in
      let k = task_at s q in
      let p = spawning k.plan (inner_at k) f c e in
      fits_spawn c p.pairs p.made (last_entry q w) (ap (λ x. fits_plan x (last_entry q w)) (sym p.is) ∙ (st.tasks q).plan)

  child_within : is_to_spawn (task_at s (spawner_at s c)) f c ≡ true → c < length s.tasks
  child_within e = named_within s.tasks c ((st.tasks c).named ∙ (named_by_spawn s.limits (spawner_at s c) c w st.legal (begins e)).0)

  pub spawn_answers : spawn_answer s f c ≡ reply s.limits w (Finish f (Spawned c))
  spawn_answers =
      let all : spawn_wanted s f c ≡ is_to_spawn (task_at s (spawner_at s c)) f c = and_within _ _ (λ e. is_below c (length s.tasks) (child_within e)) in
      let next : spawn_wanted s f c ≡ is_next_spawn s.limits w (due (spawner c w) w) f c =
      all ∙ (to_is ∙ ap (λ q. is_next_spawn s.limits w (due q w) f c) asker_is)
      in
      ap (λ (y : FinishStory). done_by (cond (spawn_wanted s f c) (answer y.tasks y.past (Spawned c)) (Err NotNow))) (st.finishes f).story
      ∙ answer_by (spawn_wanted s f c) (is_next_spawn s.limits w (due (spawner c w) w) f c) (answer s.limits.tasks (finish_past f w) (Spawned c)) next
    where
      is_below : (a b : ℕ) → a < b → nat_lt a b ≡ true
      is_below a b h = grind (arith, h)

  nearly : is_to_spawn (task_at s (spawner_at s c)) f c ≡ true → (g : ℕ) × (due (spawner_at s c) w ≡ Finish g (Spawned c) ∷ [])
  nearly e =
      let q = spawner_at s c in
      let k = task_at s q in
      let p = spawning k.plan (inner_at k) f c e in
      let fs = open_finishes q w in
      (inner_of k fs, (st.tasks q).due_is ∙ (ap (λ x. due_by q k fs x) p.is ∙ no_pairs (drop p.made p.pairs) q c (inner_of k fs) (sym (all_dropped s.limits w f c p.made p.pairs) ∙ p.over)))

idle_plan : (p : Plan) → is_idle_plan p ≡ true → p ≡ plan.Idle
idle_plan plan.Idle e = refl
idle_plan (plan.Signalling x turn) e = absurd cc
idle_plan plan.Turning e = absurd cc
idle_plan (plan.Spawning c pairs made) e = absurd cc
idle_plan plan.Shutting e = absurd cc
idle_plan (plan.Ending c) e = absurd cc

-- what was open and goes on is open, and every other finish too
module _ (w : List WorldEvent) (f c : ℕ) (opened : is_open (finish_past f w) ≡ true) where
  open_on : (h : List FinishEvent) → is_open h ≡ true → is_open (Spawned c ∷ h) ≡ is_open h
  open_on h e = (and_parts (not (is_empty h)) (not (list_any shuts h)) e).1 ∙ sym e

  still_open : (g : ℕ) → is_open (finish_past g (Finish f (Spawned c) ∷ w)) ≡ is_open (finish_past g w)
  still_open g = elim (cases_Bool (f == g)) [
    | inl e ↦ rw e (open_on (finish_past g w) (subst (λ v. is_open (finish_past v w) ≡ true) (eqb-true f g e) opened))
    | inr e ↦ rw e refl
  ]

  opens_same : (u : ℕ) → open_finishes u (Finish f (Spawned c) ∷ w) ≡ open_finishes u w
  opens_same u = filter_same (λ g. is_open (finish_past g (Finish f (Spawned c) ∷ w))) (λ g. is_open (finish_past g w)) (filter_map (opened_by u) w) still_open

  -- the line of a task that is not born with it
  other_line : (outers : List (Option ℕ)) (u : ℕ) (k : TaskState) (p : Plan) (left : List ℕ) → (c == u) ≡ false
      → due u (Finish f (Spawned c) ∷ w) ≡ due_by u (record k { plan = p; left = left }) (open_finishes u w) p
      → is_idle_plan p ≡ is_empty (due u (Finish f (Spawned c) ∷ w))
      → fits_plan p (last_entry u w) ≡ true
      → has_left p left ≡ true
      → TaskStands outers w u k → TaskStands outers (Finish f (Spawned c) ∷ w) u (record k { plan = p; left = left })
  other_line outers u k p left other due_is idle fits has st =
      let same : clock u (Finish f (Spawned c) ∷ w) ≡ clock u w = rw other refl in
      record {
        due_is = rw (opens_same u) due_is;
        idle = idle;
        plan = fits;
        left = has;
        chain = rw (opens_same u) st.chain;
        phasers = st.phasers;
        clock = st.clock ∙ ap (λ x. min x 4294967295) (sym same);
        acts = st.acts;
        home = rw other st.home;
        spawner = st.spawner;
        named = st.named;
        born = rw other st.born;
        ended = st.ended;
        refused = st.refused;
      }

  -- the child's line
  child_line : (outers : List (Option ℕ)) (k : TaskState) (time : ℕ) → (spawner c w == c) ≡ false → due c w ≡ [] → time ≡ min (clock (spawner c w) w) 4294967295
      → TaskStands outers w c k → TaskStands outers (Finish f (Spawned c) ∷ w) c (born_in f time k)
  child_line outers k time apart nothing same_clock st =
      let same : due c (Finish f (Spawned c) ∷ w) ≡ [] = due_other c (Finish f (Spawned c)) w apart ∙ nothing in
      let idle : is_idle_plan k.plan ≡ true = st.idle ∙ ap (λ ds. is_empty ds) nothing in
      let plain : k.plan ≡ plan.Idle = idle_plan k.plan idle in
      let here : clock c (Finish f (Spawned c) ∷ w) ≡ clock (spawner c w) w = rw (eq-eqb c c refl) refl in
      record {
        due_is = rw plain same;
        idle = idle ∙ ap (λ ds. is_empty ds) (sym same);
        plan = st.plan;
        left = st.left;
        chain = rw (opens_same c) st.chain;
        phasers = st.phasers;
        clock = same_clock ∙ ap (λ x. min x 4294967295) (sym here);
        acts = st.acts;
        home = rw (eq-eqb c c refl) refl;
        spawner = st.spawner;
        named = st.named;
        born = rw (eq-eqb c c refl) (sym (any_way (c == 0)));
        ended = st.ended;
        refused = st.refused;
      }
    where
      any_way : (b : Bool) → (b || true) ≡ true
      any_way true = refl
      any_way false = refl

-- the stories of the finishes after it
story_by : (l f c g : ℕ) (w : List WorldEvent) (here there : FinishStory) (b : Bool) → (f == g) ≡ b → answer here.tasks here.past (Spawned c) ≡ Ok tt
    → here ≡ record { tasks = l; past = finish_past f w } → there ≡ record { tasks = l; past = finish_past g w }
    → cond b (finish.after here (Spawned c) (answer here.tasks here.past (Spawned c))) there ≡ record { tasks = l; past = cond b (Spawned c ∷ finish_past g w) (finish_past g w) }
story_by l f c g w here there true e ok h k =
    let same : finish_past g w ≡ finish_past f w = ap (λ v. finish_past v w) (sym (eqb-true f g e)) in
    rw (ok, h, same) refl
story_by l f c g w here there false e ok h k = k

made_ok : (u : Result (Unit {0}) Refusal) → is_made (done_by u) ≡ true → u ≡ Ok tt
made_ok (Ok u) e = refl
made_ok (Err r) e = absurd cc

both_parts : (b : Bool) (u : Result (Unit {0}) Refusal) → cond b u (Err NotNow) ≡ Ok tt → (b ≡ true) × (u ≡ Ok tt)
both_parts true u e = (refl, e)
both_parts false u e = absurd cc

spawn_unchanged : (u : Result (Unit {0}) Refusal) (s new : WorldState) → is_made (done_by u) ≡ false → state_by u s new ≡ s
spawn_unchanged (Ok u) s new e = absurd cc
spawn_unchanged (Err r) s new e = refl

done_is_open : (a b d : Bool) → finish.done_unless (first_refusal ((NotNow, a) ∷ (NotNow, not b) ∷ (TasksFull, d) ∷ [])) ≡ Ok tt → a ≡ true
done_is_open true b d e = refl
done_is_open false b d e = absurd cc

open_within : (tasks : ℕ) (ys : List FinishStory) (f : ℕ) → is_open (get_or ys f (fresh tasks)).past ≡ true → f < length ys
open_within tasks [] f e = absurd cc
open_within tasks (y ∷ ys) zero e = omega arith
open_within tasks (y ∷ ys) (suc f) e = omega (arith, open_within tasks ys f e)

-- a task that isn't born has nothing to make, so it is not the one that has
not_same : (w : List WorldEvent) (q c : ℕ) (d : WorldEvent) → due q w ≡ d ∷ [] → due c w ≡ [] → (q == c) ≡ false
not_same w q c d some none =
    elim (cases_Bool (q == c)) [
      | inl e ↦ absurd (differ d (sym some ∙ (ap (λ v. due v w) (eqb-true q c e) ∙ none)))
      | inr e ↦ e
    ]
  where
    differ : (x : WorldEvent) → x ∷ [] ≡ [] → ⊥
    differ x h = absurd cc

pub spawn_is_step : (s : WorldState) (f c : ℕ) → IsStep (Finish f (Spawned c)) s (spawn_state s f c) (spawn_answer s f c)
spawn_is_step s f c = record {
  unchanged = spawn_unchanged (spawn_result s f c) s (with_task (child_born s f c) (spawner_at s c) (spawn_noted (task_at (child_born s f c) (spawner_at s c))));
  limits = limits_by (spawn_result s f c) s (with_task (child_born s f c) (spawner_at s c) (spawn_noted (task_at (child_born s f c) (spawner_at s c)))) refl;
  answer = λ w st. spawn_answers s w f c st;
  stands = λ w st is_done.
      let e = Finish f (Spawned c) in
      let q = spawner_at s c in
      let k = task_at s q in
      let y = finish_at s f in
      let ok : spawn_result s f c ≡ Ok tt = made_ok (spawn_result s f c) is_done in
      let parts = both_parts (spawn_wanted s f c) (answer y.tasks y.past (Spawned c)) ok in
      let wanted = and_parts (is_to_spawn k f c) (nat_lt c (length s.tasks)) parts.0 in
      let accepted : is_made (reply s.limits w e) ≡ true = ap (λ r. is_made r) (sym (spawn_answers s w f c st)) ∙ is_done in
      let by : q ≡ spawner c w = (st.tasks c).spawner in
      let last = nearly s w f c st wanted.0 in
      let unborn : is_born c w ≡ false = unborn_child s.limits q c w st.legal (begins s w f c st wanted.0) (ap (λ ds. is_empty ds) last.1) in
      let nothing : due c w ≡ [] = no_entry_due c w (unborn_none s.limits c w st.legal unborn) in
      let apart : (q == c) ≡ false = not_same w q c (Finish last.0 (Spawned c)) last.1 nothing in
      let back : (c == q) ≡ false = swapped q c false apart in
      let here_open : is_open y.past ≡ true = done_is_open (is_open y.past) (is_spawned c y.past) (nat_lt c y.tasks) parts.1 in
      let opened : is_open (finish_past f w) ≡ true = ap (λ (z : FinishStory). is_open z.past) (sym (st.finishes f).story) ∙ here_open in
      let in_finishes : f < length s.finishes = open_within s.limits.tasks s.finishes f here_open in
      let in_tasks : c < length s.tasks = ltb-true c (length s.tasks) wanted.1 in
      let child = born_in f k.clock (task_at s c) in
      let in_set : q < length (set s.tasks c child) = omega (arith, wanted_within s.tasks q f c wanted.0, length-set s.tasks c child) in
      let same_line : task_at (child_born s f c) q ≡ k = read_set s.tasks c q child blank_task in_tasks ∙ ap (λ b. cond b child k) back in
      let after : due q (e ∷ w) ≡ [] = due_own q e w refl (ap (λ v. v == q) (sym by) ∙ eq-eqb q q refl) refl ∙ ap (λ ds. drop 1 ds) last.1 in
      let own : TaskStands s.outers (e ∷ w) q (spawn_noted k) = other_line w f c opened s.outers q k plan.Idle [] back after (ap (λ ds. is_empty ds) (sym after)) refl refl (st.tasks q) in
      let born : TaskStands s.outers (e ∷ w) c child =
      child_line w f c opened s.outers (task_at s c) k.clock (ap (λ v. v == c) (sym by) ∙ apart) nothing ((st.tasks q).clock ∙ ap (λ v. min (clock v w) 4294967295) by) (st.tasks c)
      in
      let rest : (u : ℕ) → (q == u) ≡ false → TaskStands s.outers (e ∷ w) u (cond (c == u) child (task_at s u)) =
      λ u other. elim (cases_Bool (c == u)) [
        | inl z ↦ rw z (subst (λ v. TaskStands s.outers (e ∷ w) v child) (eqb-true c u z) born)
        | inr z ↦
            let line = st.tasks u in
            let same : due u (e ∷ w) ≡ due u w = due_other u e w (ap (λ v. v == u) (sym by) ∙ other) in
            rw z (other_line w f c opened s.outers u (task_at s u) (task_at s u).plan (task_at s u).left z (same ∙ line.due_is) (line.idle ∙ ap (λ ds. is_empty ds) (sym same)) line.plan line.left line)
      ]
      in
      let all : (u : ℕ) → TaskStands s.outers (e ∷ w) u (cond (q == u) (spawn_noted k) (cond (c == u) child (task_at s u))) =
      λ u. elim (cases_Bool (q == u)) [
        | inl z ↦ rw z (subst (λ v. TaskStands s.outers (e ∷ w) v (spawn_noted k)) (eqb-true q u z) own)
        | inr z ↦ rw z (rest u z)
      ]
      in
      let lines : (u : ℕ) → get_or (set (set s.tasks c child) q (spawn_noted (task_at (child_born s f c) q))) u blank_task ≡ cond (q == u) (spawn_noted k) (cond (c == u) child (task_at s u)) =
      λ u.
      ap (λ x. get_or (set (set s.tasks c child) q (spawn_noted x)) u blank_task) same_line
      ∙ (read_set (set s.tasks c child) q u (spawn_noted k) blank_task in_set ∙ ap (λ x. cond (q == u) (spawn_noted k) x) (read_set s.tasks c u child blank_task in_tasks))
      in
      rw ok (record {
        fit = st.fit;
        finishes_size = length-set s.finishes f (finish.after y (Spawned c) (answer y.tasks y.past (Spawned c))) ∙ st.finishes_size;
        owners_size = st.owners_size;
        outers_size = st.outers_size;
        legal = and_from (is_accepted s.limits w e) (is_legal_world s.limits w) accepted st.legal;
        phasers = λ n. record { story = (st.phasers n).story; enclosing = (st.phasers n).enclosing };
        finishes = λ g. record {
          story =
              read_set s.finishes f g (finish.after y (Spawned c) (answer y.tasks y.past (Spawned c))) (fresh s.limits.tasks) in_finishes
              ∙ story_by s.limits.tasks f c g w y (finish_at s g) (f == g) refl parts.1 (st.finishes f).story (st.finishes g).story;
          owner = (st.finishes g).owner;
        };
        tasks = λ u. subst (λ line. TaskStands s.outers (e ∷ w) u line) (sym (lines u)) (all u);
      });
}
