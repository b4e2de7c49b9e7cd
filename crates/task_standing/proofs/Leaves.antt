-- A task that is dropped from a phaser holds it no more.
use Rattle.std.proofs.Common.{◌≡◌, ℕ, ◌+◌, ◌≤◌, ◌==◌, Bool, true, false, ◌&&◌, ◌||◌, not, cond, List, [], ◌∷◌, ◌++◌, map, reverse, refl, sym, ap, ◌∙◌, inl, inr, arith}
use Rattle.std.specs.Prelude.{filter, filter_map}
use Rattle.std.proofs.lemmas.Bool.{cases_Bool, eq-eqb}
use Rattle.phase_model.specs.Tasks.{is_live, is_registered, is_dropped, mode_of}
use Rattle.phase_model.specs.Phases.{waits, signals}
use Rattle.phase_model.specs.declared.history.Event.TheVariants.{Drop as Dropped}
use Rattle.finish_core.specs.declared.event.FinishEvent.TheVariants.{Shut as Shutting}
use Rattle.world_model.specs.declared.event.Step.TheVariants.{Drop}
use Rattle.world_model.specs.declared.event.WorldEvent.{WorldEvent}
use Rattle.world_model.specs.declared.event.WorldEvent.TheVariants.{Phaser, Finish}
use Rattle.world_model.specs.Parts.{phaser_past}
use Rattle.world_model.specs.Scopes.{enclosing}
use Rattle.world_model.specs.Tasks.{phasers_of, joined_by, is_born}
use Rattle.world_model.proofs.MadeMeans.{last_accepted, part_made}
use Rattle.world_model.proofs.PhasersOnce.{times}
use Rattle.world_model.proofs.SmallWords.{cons_parts}
use Rattle.task_standing.specs.declared.held.Held.{Held}
use Rattle.task_standing.specs.declared.plan.Plan.{Plan}
use Rattle.task_standing.specs.declared.plan.Plan.TheVariants as plan
use Rattle.task_standing.specs.Known.{Known}
use Rattle.task_standing.specs.Standing.{inner_of}
use Rattle.task_standing.specs.StillToMake.{planned, drops_of, shuts_of, end_of}
use Rattle.task_standing.specs.Histories.{held_in}
use Rattle.task_standing.specs.Laws.{LeavesLeave}
use Rattle.task_standing.proofs.Plain.{next_not_zero}
use Rattle.task_standing.proofs.Kept.{held_by}
use Rattle.task_standing.proofs.Marks.{numbers, none_more, fewer}
use Rattle.task_standing.proofs.Starts.{starts, never_starts, signalling_not, turning_not, spawning_not, closing_not, Continues, continuing}
use Rattle.task_standing.proofs.Signals.{held_once}

-- the numbers that pass one test and another
filter_twice : (p q r : ℕ → Bool) (xs : List ℕ) → ((m : ℕ) → p m ≡ (q m && r m)) → filter p xs ≡ filter r (filter q xs)
filter_twice p q r [] e = refl
filter_twice p q r (x ∷ xs) e =
    let rest : filter p xs ≡ filter r (filter q xs) = filter_twice p q r xs e in
    elim (cases_Bool (q x)) [
      | inl k ↦ rw (e x, k) (ap (λ ys. cond (r x) (x ∷ ys) ys) rest)
      | inr k ↦ rw (e x, k) rest
    ]

and_not : (a b : Bool) → (a && not (true || b)) ≡ (a && not b && false)
and_not true true = refl
and_not true false = refl
and_not false b = refl

and_true : (a b : Bool) → (a && not b) ≡ (a && not b && true)
and_true true true = refl
and_true true false = refl
and_true false b = refl

turned : (m n : ℕ) (b : Bool) → (m == n) ≡ b → (n == m) ≡ b
turned m n b h = grind arith

module _ (w : List WorldEvent) (n t : ℕ) where
  live_left : (m : ℕ) → is_live t (phaser_past m (Phaser n (Drop t) ∷ w)) ≡ (is_live t (phaser_past m w) && not (m == n))
  live_left m = elim (cases_Bool (n == m)) [
    | inl e ↦
        rw (e, eq-eqb t t refl, turned n m true e) (and_not (is_registered t (phaser_past m w)) (is_dropped t (phaser_past m w)))
    | inr e ↦
        rw (e, turned n m false e) (and_true (is_registered t (phaser_past m w)) (is_dropped t (phaser_past m w)))
  ]

  pub own_gone : phasers_of t (Phaser n (Drop t) ∷ w) ≡ filter (λ m. not (m == n)) (phasers_of t w)
  own_gone =
      filter_twice (λ m. is_live t (phaser_past m (Phaser n (Drop t) ∷ w))) (λ m. is_live t (phaser_past m w)) (λ m. not (m == n)) (reverse (filter_map (joined_by t) w)) live_left

  pub held_same : (m : ℕ) → held_in w t m ≡ held_in (Phaser n (Drop t) ∷ w) t m
  held_same m =
      elim (n == m) as (λ b. held_in w t m
      ≡ (let h = cond b (Dropped t ∷ phaser_past m w) (phaser_past m w) in held_by m (enclosing m w) (mode_of t h) (signals t h) (waits t h))) [
        | true ↦ refl
        | false ↦ refl
      ]

  -- what is held of the others is as it was
  pub left_held : (ns : List ℕ) → filter (λ h. not (h.phaser == n)) (map (held_in w t) ns)
      ≡ map (held_in (Phaser n (Drop t) ∷ w) t) (filter (λ m. not (m == n)) ns)
  left_held [] = refl
  left_held (m ∷ ns) =
      elim (cases_Bool (m == n)) [
        | inl e ↦ rw e (left_held ns)
        | inr e ↦ rw e (ap (λ h. h ∷ filter (λ h. not (h.phaser == n)) (map (held_in w t) ns)) (held_same m)
            ∙ ap (λ hs. held_in (Phaser n (Drop t) ∷ w) t m ∷ hs) (left_held ns))
      ]

abbrev is_dropping : WorldEvent → Bool
is_dropping (Phaser n (Drop t)) = true
is_dropping _ = false

-- what isn't held is not lost
pub keep_all : (n : ℕ) (hs : List Held) → times n (numbers hs) ≡ 0 → filter (λ h. not (h.phaser == n)) hs ≡ hs
keep_all n [] e = refl
keep_all n (h ∷ hs) e =
    elim (cases_Bool (h.phaser == n)) [
      | inl s ↦ absurd (next_not_zero (times n (numbers hs)) (ap (λ c. cond c (times n (numbers hs) + 1) (times n (numbers hs))) (sym s) ∙ e))
      | inr s ↦
          let rest : times n (numbers hs) ≡ 0 = ap (λ c. cond c (times n (numbers hs) + 1) (times n (numbers hs))) (sym s) ∙ e in
          rw s (ap (λ gs. h ∷ gs) (keep_all n hs rest))
    ]

pub drop_place : (m n t u : ℕ) → Phaser m (Drop t) ≡ Phaser n (Drop u) → m ≡ n
drop_place m n t u e = cc

-- the first drop of those that pass a test is made
drop_less : (q : Held → Bool) (t n u : ℕ) (hs : List Held) (tail rest : List WorldEvent) → times n (numbers hs) ≤ 1
    → starts is_dropping tail ≡ false
    → drops_of t (filter q hs) ++ tail ≡ Phaser n (Drop u) ∷ rest
    → drops_of t (filter q (filter (λ h. not (h.phaser == n)) hs)) ++ tail ≡ rest
drop_less q t n u [] tail rest once none e = absurd (never_starts is_dropping tail rest (Phaser n (Drop u)) e refl none)
drop_less q t n u (h ∷ hs) tail rest once none e =
    elim (cases_Bool (q h)) [
      | inl o ↦
          let parts =
          cons_parts (Phaser h.phaser (Drop t)) (Phaser n (Drop u)) (drops_of t (filter q hs) ++ tail) rest (sym (rw o refl) ∙ e) in
          let same : (h.phaser == n) ≡ true = eq-eqb h.phaser n (drop_place h.phaser n t u parts.0) in
          let others : filter (λ h. not (h.phaser == n)) hs ≡ hs = keep_all n hs (none_more h.phaser n (numbers hs) same once) in
          rw same (ap (λ gs. drops_of t (filter q gs) ++ tail) others ∙ parts.1)
      | inr o ↦
          let before : drops_of t (filter q (filter (λ h. not (h.phaser == n)) hs)) ++ tail ≡ rest =
          drop_less q t n u hs tail rest (fewer h.phaser n 1 (numbers hs) once) none (sym (rw o refl) ∙ e) in
          elim (cases_Bool (h.phaser == n)) [
            | inl s ↦ rw s before
            | inr s ↦ rw (s, o) before
          ]
    ]

-- the first drop of all is made
drop_first : (t n u : ℕ) (hs : List Held) (tail rest : List WorldEvent) → times n (numbers hs) ≤ 1
    → starts is_dropping tail ≡ false → drops_of t hs ++ tail ≡ Phaser n (Drop u) ∷ rest
    → drops_of t (filter (λ h. not (h.phaser == n)) hs) ++ tail ≡ rest
drop_first t n u [] tail rest once none e = absurd (never_starts is_dropping tail rest (Phaser n (Drop u)) e refl none)
drop_first t n u (h ∷ hs) tail rest once none e =
    let parts = cons_parts (Phaser h.phaser (Drop t)) (Phaser n (Drop u)) (drops_of t hs ++ tail) rest e in
    let same : (h.phaser == n) ≡ true = eq-eqb h.phaser n (drop_place h.phaser n t u parts.0) in
    let others : filter (λ h. not (h.phaser == n)) hs ≡ hs = keep_all n hs (none_more h.phaser n (numbers hs) same once) in
    rw same (ap (λ gs. drops_of t gs ++ tail) others ∙ parts.1)

module _ (k : Known) (n u : ℕ) (rest : List WorldEvent) (once : times n (numbers k.holding) ≤ 1) where
  abbrev after : Known
  after = record k { holding = filter (λ h. not (h.phaser == n)) k.holding }

  other : (p : Plan) → planned k p ≡ Phaser n (Drop u) ∷ rest → starts is_dropping (planned k p) ≡ false
      → rest ≡ planned after p
  other p e s = absurd (never_starts is_dropping (planned k p) rest (Phaser n (Drop u)) e refl s)

  left_plan : (p : Plan) → planned k p ≡ Phaser n (Drop u) ∷ rest → rest ≡ planned after p
  left_plan plan.Idle e = absurd cc
  left_plan (plan.Signalling y b) e = other (plan.Signalling y b) e (signalling_not is_dropping k y b (λ m. refl) (λ m. refl))
  left_plan (plan.Turning next) e = other (plan.Turning next) e (turning_not is_dropping k next (λ m. refl))
  left_plan (plan.Spawning c pairs made) e =
      other (plan.Spawning c pairs made) e (spawning_not is_dropping k c pairs made (λ q. refl) (λ f. refl))
  left_plan plan.Shutting e =
      sym (drop_less (λ h. h.finish == inner_of k) k.number n u k.holding (Finish (inner_of k) Shutting ∷ []) rest once refl e)
  left_plan plan.Ending e =
      sym (drop_first k.number n u k.holding (shuts_of k.finishes ++ end_of k ∷ []) rest once
      (closing_not is_dropping k (λ f. refl) (λ f u. refl)) e)

pub leaves_leave : LeavesLeave
leaves_leave l w k n legal born st =
    let e = Phaser n (Drop k.number) in
    let t = k.number in
    let a = last_accepted l e w legal in
    let by : cond (is_born t w) t _ ≡ t = rw born refl in
    let c : Continues t e w = continuing l e w t by (part_made l w e a.0).0 refl refl in
    record {
      of = record {
        holding =
            ap (λ hs. filter (λ h. not (h.phaser == n)) hs) st.of.holding
            ∙ (left_held w n t (phasers_of t w)
            ∙ ap (λ ns. map (held_in (e ∷ w) t) ns) (sym (own_gone w n t)));
        finishes = st.of.finishes;
        home = st.of.home;
        acts = st.of.acts;
      };
      due_is = c.after ∙ left_plan k n t c.rest (held_once l w k a.1 st.of n) k.plan (sym st.due_is ∙ c.before);
    }
