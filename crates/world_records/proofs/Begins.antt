-- What an act that names no child leaves of the acting task's line, and what leads to a task's end as a line says it.
use Rattle.std.proofs.Common.{◌≡◌, ℕ, ◌+◌, ◌<◌, ◌==◌, Bool, true, false, min, cond, List, [], ◌∷◌, ◌++◌, map, Option, Some, None, get_or, refl, sym, ap, subst, ◌∙◌, arith}
use Rattle.std.specs.Prelude.{filter, slice_index_or}
use Rattle.std.proofs.lemmas.Bool.{eq-eqb}
use Rattle.std.proofs.lemmas.List.{append-nil, append_assoc}
use Rattle.std.proofs.lemmas.List.Sums.{sum_by-cons}
use Rattle.phase_modes.specs.Lists.{is_empty}
use Rattle.finish_core.specs.declared.event.FinishEvent.TheVariants.{Ended, Shut as Shutting}
use Rattle.world_model.specs.declared.event.Step.TheVariants.{Sig, Pass, Drop}
use Rattle.world_model.specs.declared.event.Begun.{Begun}
use Rattle.world_model.specs.declared.event.Begun.TheVariants.{Async, Signal, Wait, Next, NextSingle, Shut, End}
use Rattle.world_model.specs.declared.event.Tried.TheVariants.{Begun as Beginning}
use Rattle.world_model.specs.declared.event.WorldEvent.{WorldEvent}
use Rattle.world_model.specs.declared.event.WorldEvent.TheVariants.{Phaser, Finish, Begin}
use Rattle.world_model.specs.Parts.{phaser_past}
use Rattle.world_model.specs.Tasks as of
use Rattle.world_model.specs.Tasks.{phasers_of, acts, is_act}
use Rattle.world_model.specs.Scopes as scope
use Rattle.world_model.specs.Scopes.{open_finishes}
use Rattle.world_model.specs.Due.{due, fixed_by, is_behind, signals_due, passes_due, drops_due, ending}
use Rattle.world_model.specs.Clock.{clock, is_turn}
use Rattle.world_model.specs.ActConditions.{is_counted}
use Rattle.world_records.specs.declared.plan.Plan.{Plan}
use Rattle.world_records.specs.declared.plan.Plan.TheVariants as plan
use Rattle.world_records.specs.TaskState.{TaskState}
use Rattle.world_records.specs.WorldState.{WorldState}
use Rattle.world_records.specs.Kept.{task_at, inner_at, is_idle_plan, past_in}
use Rattle.world_records.specs.StandsFor.{TaskStands, StandsFor, due_by, end_of}
use Rattle.world_records.specs.Plans.{fits_plan, has_left}
use Rattle.world_records.specs.inner.Facts.{owes}
use Rattle.world_records.specs.inner.Steps.{passing_on, turn_begun}
use Rattle.world_records.specs.inner.Begins.{signals_begun, enclosed, shut_begun, end_begun, line_begun}
use Rattle.world_records.proofs.Entries.{IsPlain, spawner_plain, named_plain}
use Rattle.world_records.proofs.Owed.{signals_owed}
use Rattle.world_records.proofs.BeginsAsked.{inner_stands}

abbrev counts : Begun → Bool
counts b = is_counted (Beginning b)

act_own : (t : ℕ) (b : Begun) → counts b ≡ true → is_act t (Begin t b) ≡ true
act_own t (Async c pairs) e = eq-eqb t t refl
act_own t Signal e = eq-eqb t t refl
act_own t Wait e = eq-eqb t t refl
act_own t Next e = eq-eqb t t refl
act_own t (NextSingle x) e = eq-eqb t t refl
act_own t Shut e = eq-eqb t t refl
act_own t End e = absurd cc

module _ (outers : List (Option ℕ)) (w : List WorldEvent) (t : ℕ) (b : Begun) (plain : IsPlain b) (k : TaskState) (st : TaskStands outers w t k) where
  -- the acting task's line, but for what the act changes
  own_line : (p : Plan) (left : List ℕ) (c a : ℕ)
      → fixed_by t b w ≡ due_by t (record k { plan = p; left = left; clock = c; acts = a }) (open_finishes t w) p
      → is_idle_plan p ≡ is_empty (due_by t (record k { plan = p; left = left; clock = c; acts = a }) (open_finishes t w) p)
      → fits_plan p (Some (Begin t b)) ≡ true
      → has_left p left ≡ true
      → c ≡ min (clock t (Begin t b ∷ w)) 4294967295
      → a ≡ acts t (Begin t b ∷ w)
      → TaskStands outers (Begin t b ∷ w) t (record k { plan = p; left = left; clock = c; acts = a })
  own_line p left c a fixed idle fits has clock acts =
      let entered : due t (Begin t b ∷ w) ≡ fixed_by t b w = rw (eq-eqb t t refl) refl in
      let due_is : due t (Begin t b ∷ w) ≡ due_by t (record k { plan = p; left = left; clock = c; acts = a }) (open_finishes t w) p = entered ∙ fixed in
      record {
        due_is = due_is;
        idle = idle ∙ ap (λ ds. is_empty ds) (sym due_is);
        plan = rw (eq-eqb t t refl) fits;
        left = has;
        chain = st.chain;
        phasers = st.phasers;
        clock = clock;
        acts = acts;
        home = st.home;
        spawner = st.spawner ∙ sym (spawner_plain t t b w plain);
        named = st.named ∙ sym (named_plain t t b w plain);
        born = st.born;
        ended = st.ended;
        refused = st.refused;
      }

  -- the count of acts after a counted one
  own_acts : counts b ≡ true → k.acts < 65536 → min (k.acts + 1) 4294967295 ≡ acts t (Begin t b ∷ w)
  own_acts many few =
      let sum : acts t (Begin t b ∷ w) ≡ cond (is_act t (Begin t b)) 1 0 + acts t w = sum_by-cons (λ e. cond (is_act t e) 1 0) (Begin t b) w in
      let one_more : acts t (Begin t b ∷ w) ≡ 1 + acts t w = sum ∙ ap (λ v. cond v 1 0 + acts t w) (act_own t b many) in
      omega (arith, one_more, st.acts, few)

  -- the clock: an act that is no turn leaves it, and so does a turn on some phaser
  clock_still : is_turn b ≡ false → k.clock ≡ min (clock t (Begin t b ∷ w)) 4294967295
  clock_still still =
      let same : clock t (Begin t b ∷ w) ≡ clock t w = rw (eq-eqb t t refl, still) refl in
      st.clock ∙ ap (λ c. min c 4294967295) (sym same)

  clock_in_turn : is_turn b ≡ true → (n : ℕ) (ns : List ℕ) → k.phasers ≡ n ∷ ns → k.clock ≡ min (clock t (Begin t b ∷ w)) 4294967295
  clock_in_turn turn n ns e =
      let some : is_empty (phasers_of t w) ≡ false = ap (λ xs. is_empty xs) (sym st.phasers ∙ e) in
      let same : clock t (Begin t b ∷ w) ≡ clock t w = rw (eq-eqb t t refl, turn, some) refl in
      st.clock ∙ ap (λ c. min c 4294967295) (sym same)

  clock_alone : is_turn b ≡ true → k.phasers ≡ [] → min (k.clock + 1) 4294967295 ≡ min (clock t (Begin t b ∷ w)) 4294967295
  clock_alone turn e =
      let none : is_empty (phasers_of t w) ≡ true = ap (λ xs. is_empty xs) (sym st.phasers ∙ e) in
      let more : clock t (Begin t b ∷ w) ≡ clock t w + 1 = rw (eq-eqb t t refl, turn, none) refl in
      omega (arith, more, st.clock)

  passes_are : passes_due t w ≡ map (λ n. Phaser n (Pass t)) k.phasers
  passes_are = ap (λ xs. map (λ n. Phaser n (Pass t)) xs) (sym st.phasers)

  -- a turn without signals comes to its passes, or is ended; what is left then is of no account
  passing_line : is_turn b ≡ true → counts b ≡ true → (left ns : List ℕ) → k.phasers ≡ ns → fixed_by t b w ≡ passes_due t w → k.acts < 65536
      → TaskStands outers (Begin t b ∷ w) t (passing_on ns (record k { left = left; acts = min (k.acts + 1) 4294967295 }))
  passing_line turn many left [] e fixed few =
      own_line plan.Idle [] (min (k.clock + 1) 4294967295) (min (k.acts + 1) 4294967295) (fixed ∙ (passes_are ∙ ap (λ xs. map (λ n. Phaser n (Pass t)) xs) e)) refl refl refl (clock_alone turn e) (own_acts many few)
  passing_line turn many left (n ∷ ns) e fixed few =
      own_line plan.Turning (n ∷ ns) k.clock (min (k.acts + 1) 4294967295) (fixed ∙ (passes_are ∙ ap (λ xs. map (λ m. Phaser m (Pass t)) xs) e)) refl turn refl (clock_in_turn turn n ns e) (own_acts many few)

  -- a turn that signals with this number, by what is left and what the task is on
  turn_line : is_turn b ≡ true → counts b ≡ true → (x : Option ℕ) (left ns : List ℕ) → fits_plan (plan.Signalling x true) (Some (Begin t b)) ≡ true
      → fixed_by t b w ≡ signals_due t x w ++ passes_due t w
      → k.phasers ≡ ns → left ≡ filter (λ n. is_behind t (phaser_past n w)) (phasers_of t w) → k.acts < 65536
      → TaskStands outers (Begin t b ∷ w) t (turn_begun x (record k { left = left }))
  turn_line turn many x (m ∷ ms) [] fits fixed e signals few =
      let nothing : filter (λ n. is_behind t (phaser_past n w)) (phasers_of t w) ≡ [] = ap (λ xs. filter (λ n. is_behind t (phaser_past n w)) xs) (sym st.phasers ∙ e) in
      absurd cc
  turn_line turn many x (m ∷ ms) (n ∷ ns) fits fixed e signals few =
      let owed : signals_due t x w ≡ map (λ i. Phaser i (Sig t x)) (m ∷ ms) = ap (λ xs. map (λ i. Phaser i (Sig t x)) xs) (sym signals) in
      let all : fixed_by t b w ≡ map (λ i. Phaser i (Sig t x)) (m ∷ ms) ++ map (λ i. Phaser i (Pass t)) k.phasers =
      fixed ∙ (ap (λ xs. xs ++ passes_due t w) owed ∙ ap (λ xs. map (λ i. Phaser i (Sig t x)) (m ∷ ms) ++ xs) passes_are)
      in
      own_line (plan.Signalling x true) (m ∷ ms) k.clock (min (k.acts + 1) 4294967295) all refl fits refl (clock_in_turn turn n ns e) (own_acts many few)
  turn_line turn many x [] ns fits fixed e signals few =
      let none : signals_due t x w ≡ [] = ap (λ xs. map (λ i. Phaser i (Sig t x)) xs) (sym signals) in
      let all : fixed_by t b w ≡ passes_due t w = fixed ∙ ap (λ xs. xs ++ passes_due t w) none in
      subst (λ xs. TaskStands outers (Begin t b ∷ w) t (passing_on xs (record k { left = []; acts = min (k.acts + 1) 4294967295 }))) (sym e) (passing_line turn many [] ns e all few)

  -- a plain signal, by what is left
  signal_line : is_turn b ≡ false → counts b ≡ true → (left : List ℕ) → fits_plan (plan.Signalling None false) (Some (Begin t b)) ≡ true → fixed_by t b w ≡ signals_due t None w
      → left ≡ filter (λ n. is_behind t (phaser_past n w)) (phasers_of t w) → k.acts < 65536 → TaskStands outers (Begin t b ∷ w) t (signals_begun (record k { left = left }))
  signal_line still many [] fits fixed signals few =
      own_line plan.Idle [] k.clock (min (k.acts + 1) 4294967295) (fixed ∙ ap (λ xs. map (λ i. Phaser i (Sig t None)) xs) (sym signals)) refl refl refl (clock_still still) (own_acts many few)
  signal_line still many (m ∷ ms) fits fixed signals few =
      own_line (plan.Signalling None false) (m ∷ ms) k.clock (min (k.acts + 1) 4294967295)
      (fixed ∙ (ap (λ xs. map (λ i. Phaser i (Sig t None)) xs) (sym signals) ∙ sym (append-nil (map (λ i. Phaser i (Sig t None)) (m ∷ ms)))))
      refl fits refl (clock_still still) (own_acts many few)

-- the phasers that the innermost finish encloses
enclosed_are : (s : WorldState) (w : List WorldEvent) (t : ℕ) (ns : List ℕ) → StandsFor w s → filter (λ n. get_or s.enclosing n 0 == inner_at (task_at s t)) ns ≡ filter (λ n. scope.enclosing n w == scope.inner t w) ns
enclosed_are s w t [] st = refl
enclosed_are s w t (n ∷ ns) st =
    let here : (get_or s.enclosing n 0 == inner_at (task_at s t)) ≡ (scope.enclosing n w == scope.inner t w) =
    ap (λ f. f == inner_at (task_at s t)) (st.phasers n).enclosing ∙ ap (λ f. scope.enclosing n w == f) (inner_stands s.outers w t (task_at s t) (st.tasks t))
    in
    rw here (ap (λ ys. cond (scope.enclosing n w == scope.inner t w) (n ∷ ys) ys) (enclosed_are s w t ns st))

is_some_nonempty : (xs : List WorldEvent) (e : WorldEvent) → is_empty (xs ++ e ∷ []) ≡ false
is_some_nonempty [] e = refl
is_some_nonempty (x ∷ xs) e = refl

shut_line : (s : WorldState) (w : List WorldEvent) (t : ℕ) → StandsFor w s → (task_at s t).acts < 65536 → TaskStands s.outers (Begin t Shut ∷ w) t (shut_begun s.enclosing (task_at s t))
shut_line s w t st few =
    let k = task_at s t in
    let line = st.tasks t in
    let left = enclosed s.enclosing (inner_at k) k.phasers in
    let left_is : left ≡ filter (λ n. scope.enclosing n w == scope.inner t w) (phasers_of t w) =
    ap (λ ns. enclosed s.enclosing (inner_at k) ns) line.phasers ∙ enclosed_are s w t (phasers_of t w) st
    in
    let inner_same : scope.inner t w ≡ slice_index_or (open_finishes t w) 0 k.home = ap (λ d. slice_index_or (open_finishes t w) 0 d) (sym line.home) in
    let fixed : fixed_by t Shut w ≡ map (λ n. Phaser n (Drop t)) left ++ Finish (slice_index_or (open_finishes t w) 0 k.home) Shutting ∷ [] =
    ap (λ ns. map (λ n. Phaser n (Drop t)) ns ++ Finish (scope.inner t w) Shutting ∷ []) (sym left_is)
    ∙ ap (λ f. map (λ n. Phaser n (Drop t)) left ++ Finish f Shutting ∷ []) inner_same
    in
    own_line s.outers w t Shut tt k line plan.Shutting left k.clock (min (k.acts + 1) 4294967295) fixed
    (sym (is_some_nonempty (map (λ n. Phaser n (Drop t)) left) (Finish (slice_index_or (open_finishes t w) 0 k.home) Shutting))) refl refl
    (clock_still s.outers w t Shut tt k line refl) (own_acts s.outers w t Shut tt k line refl few)

-- what leads to the task's end, read off its line
pub ending_is : (outers : List (Option ℕ)) (w : List WorldEvent) (t : ℕ) (k : TaskState) → TaskStands outers w t k
    → ending t w ≡ map (λ n. Phaser n (Drop t)) k.phasers ++ (map (λ f. Finish f Shutting) (open_finishes t w) ++ end_of t k ∷ [])
ending_is outers w t k st =
    append_assoc (drops_due t w) (map (λ f. Finish f Shutting) (open_finishes t w)) (cond (t == 0) (Finish 0 Shutting) (Finish (of.home t w) (Ended t)) ∷ [])
    ∙ (ap (λ ns. map (λ n. Phaser n (Drop t)) ns ++ (map (λ f. Finish f Shutting) (open_finishes t w) ++ cond (t == 0) (Finish 0 Shutting) (Finish (of.home t w) (Ended t)) ∷ [])) (sym st.phasers)
    ∙ ap (λ h. map (λ n. Phaser n (Drop t)) k.phasers ++ (map (λ f. Finish f Shutting) (open_finishes t w) ++ cond (t == 0) (Finish 0 Shutting) (Finish h (Ended t)) ∷ [])) (sym st.home))

pub ending_some : (t : ℕ) (k : TaskState) (ns fs : List ℕ) → is_empty (map (λ n. Phaser n (Drop t)) ns ++ (map (λ f. Finish f Shutting) fs ++ end_of t k ∷ [])) ≡ false
ending_some t k [] fs = is_some_nonempty (map (λ f. Finish f Shutting) fs) (end_of t k)
ending_some t k (n ∷ ns) fs = refl

end_line : (outers : List (Option ℕ)) (w : List WorldEvent) (t : ℕ) (k : TaskState) → TaskStands outers w t k → TaskStands outers (Begin t End ∷ w) t (end_begun t k)
end_line outers w t k st =
    own_line outers w t End tt k st (plan.Ending t) [] k.clock k.acts (ending_is outers w t k st) (sym (ending_some t k k.phasers (open_finishes t w))) refl refl (clock_still outers w t End tt k st refl) st.acts

-- the signals that are owed
owed_are : (s : WorldState) (w : List WorldEvent) (t : ℕ) → StandsFor w s → filter (λ n. owes t (past_in s.phasers n)) (task_at s t).phasers ≡ filter (λ n. is_behind t (phaser_past n w)) (phasers_of t w)
owed_are s w t st = ap (λ ns. filter (λ n. owes t (past_in s.phasers n)) ns) (st.tasks t).phasers ∙ signals_owed s w t st.phasers

-- the line after each of them
pub line_stands : (s : WorldState) (w : List WorldEvent) (t : ℕ) (b : Begun) → IsPlain b → StandsFor w s → (counts b ≡ true → (task_at s t).acts < 65536) → TaskStands s.outers (Begin t b ∷ w) t (line_begun s t b)
line_stands s w t (Async c pairs) plain st few = absurd plain
line_stands s w t Signal plain st few =
    signal_line s.outers w t Signal tt (task_at s t) (st.tasks t) refl refl (filter (λ n. owes t (past_in s.phasers n)) (task_at s t).phasers) refl refl (owed_are s w t st) (few refl)
line_stands s w t Wait plain st few = passing_line s.outers w t Wait tt (task_at s t) (st.tasks t) refl refl (task_at s t).left (task_at s t).phasers refl refl (few refl)
line_stands s w t Next plain st few =
    turn_line s.outers w t Next tt (task_at s t) (st.tasks t) refl refl None (filter (λ n. owes t (past_in s.phasers n)) (task_at s t).phasers) (task_at s t).phasers refl refl refl (owed_are s w t st) (few refl)
line_stands s w t (NextSingle x) plain st few =
    turn_line s.outers w t (NextSingle x) tt (task_at s t) (st.tasks t) refl refl (Some x) (filter (λ n. owes t (past_in s.phasers n)) (task_at s t).phasers) (task_at s t).phasers refl refl refl (owed_are s w t st) (few refl)
line_stands s w t Shut plain st few = shut_line s w t st (few refl)
line_stands s w t End plain st few = end_line s.outers w t (task_at s t) (st.tasks t)
