-- Each drop that is due to a task is of a registration that stands,
-- for which the task acts; and none is due twice.
use Rattle.std.proofs.Common.{◌≡◌, ℕ, ◌+◌, ◌≤◌, Bool, true, false, ◌&&◌, ◌||◌, ◌==◌, not, cond, List, [], ◌∷◌, ◌++◌, map, Some, None, refl, sym, subst, ap, ◌∙◌, inl, inr, arith}
use Rattle.std.specs.Prelude.{filter, filter_map, flat_map}
use Rattle.std.specs.List.{list_any, cons_option}
use Rattle.std.proofs.lemmas.Bool.{and_parts, or_cases, or_left, or_right, or_parts, cases_Bool, eqb-true, eq-eqb, not-true, true≢false, false≢true, false_from_ne_true}
use Rattle.std.proofs.lemmas.List.Folds.{list_any-append}
use Rattle.phase_modes.specs.declared.limits.Limits.{Limits}
use Rattle.phase_model.specs.Tasks.{is_live}
use Rattle.phase_model.proofs.LiveTasks.{has, has-filter, Apart, Apart-filter}
use Rattle.finish_core.specs.declared.event.FinishEvent.TheVariants.{Shut as Shutting}
use Rattle.world_model.specs.declared.event.Step.TheVariants.{Drop}
use Rattle.world_model.specs.declared.event.Begun.TheVariants.{Async}
use Rattle.world_model.specs.declared.event.WorldEvent.{WorldEvent}
use Rattle.world_model.specs.declared.event.WorldEvent.TheVariants.{Phaser, Finish, Begin}
use Rattle.world_model.specs.Parts.{phaser_past}
use Rattle.world_model.specs.Scopes.{open_finishes}
use Rattle.world_model.specs.Tasks.{spawner, is_born, phasers_of}
use Rattle.world_model.specs.Numbers.{names, is_named}
use Rattle.world_model.specs.Due.{drops_due, ending, unborn, named_by}
use Rattle.world_model.specs.Replies.{is_legal_world}
use Rattle.world_model.proofs.MadeMeans.{last_accepted}
use Rattle.world_model.proofs.PhasersOnce.{times, times-filter, phasers_once}
use Rattle.world_model.proofs.SpawnUnderWay.{names_fresh, spawner_later, named_later}
use Rattle.world_model.proofs.AgentOfTask.{agent}
use Rattle.world_model.proofs.LeavingList.{is_drop_of, last_of, shuts_of}
use Rattle.world_model.proofs.ShutsLeaveNobody.{tail_without_drops}
use Rattle.world_model.proofs.TurnsStand.{how_many, listed_live}

pub record DropsStand (t : ℕ) (w ds : List WorldEvent) : Type 0 where
  pub each : (u n : ℕ) → list_any (is_drop_of u n) ds ≡ true
      → (agent u w ≡ t) × (is_live u (phaser_past n w) ≡ true)
  pub once : (u n : ℕ) → how_many (is_drop_of u n) ds ≤ 1

counted_both : (p : WorldEvent → Bool) (xs ys : List WorldEvent)
    → how_many p (xs ++ ys) ≡ how_many p xs + how_many p ys
counted_both p [] ys = zero_before (how_many p ys)
  where
    zero_before : (x : ℕ) → x ≡ 0 + x
    zero_before x = omega arith
counted_both p (x ∷ xs) ys =
    ap (λ r. cond (p x) (r + 1) r) (counted_both p xs ys) ∙ move (p x) (how_many p xs) (how_many p ys)
  where
    move : (b : Bool) (x y : ℕ) → cond b ((x + y) + 1) (x + y) ≡ cond b (x + 1) x + y
    move true x y = omega arith
    move false x y = refl

pub none_counted : (p : WorldEvent → Bool) (ds : List WorldEvent) → list_any p ds ≡ false → how_many p ds ≡ 0
none_counted p [] k = refl
none_counted p (d ∷ ds) k =
    let a = or_parts (p d) (list_any p ds) k in
    ap (λ b. cond b (how_many p ds + 1) (how_many p ds)) a.0 ∙ none_counted p ds a.1

abbrev pub drops_on : ℕ → List ℕ → List WorldEvent
drops_on t ns = map (λ n. Phaser n (Drop t)) ns

drops_counted : (t u n : ℕ) (ns : List ℕ)
    → how_many (is_drop_of u n) (drops_on t ns) ≡ cond (t == u) (times n ns) 0
drops_counted t u n [] = elim (t == u) as (λ b. ◌≡◌ {A = ℕ} 0 (cond b 0 0)) [ true ↦ refl | false ↦ refl ]
drops_counted t u n (m ∷ ms) =
    ap (λ r. cond (m == n && t == u) (r + 1) r) (drops_counted t u n ms) ∙ both (m == n) (t == u) (times n ms)
  where
    both : (a b : Bool) (x : ℕ) → cond (a && b) (cond b x 0 + 1) (cond b x 0) ≡ cond b (cond a (x + 1) x) 0
    both true true x = refl
    both true false x = refl
    both false true x = refl
    both false false x = refl

pub drop_listed : (t u n : ℕ) (ns : List ℕ) → list_any (is_drop_of u n) (drops_on t ns) ≡ true
    → ((t == u) ≡ true) × (has n ns ≡ true)
drop_listed t u n [] k = absurd (false≢true k)
drop_listed t u n (m ∷ ms) k =
    elim (or_cases (m == n && t == u) (list_any (is_drop_of u n) (drops_on t ms)) k) [
      | inl e ↦ let p = and_parts (m == n) (t == u) e in (p.1, or_left (m == n) (has n ms) p.0)
      | inr e ↦ let p = drop_listed t u n ms e in (p.0, or_right (m == n) (has n ms) p.1)
    ]

module _ (l : Limits) (w : List WorldEvent) (k : is_legal_world l w ≡ true) where
  live_once : (t n : ℕ) → times n (phasers_of t w) ≤ 1
  live_once t n = subst (λ x. x ≤ 1) (sym (phasers_once l w k t n)) (one (is_live t (phaser_past n w)))
    where
      one : (b : Bool) → cond b 1 0 ≤ 1
      one true = omega arith
      one false = omega arith

  own_once : (t u n : ℕ) → how_many (is_drop_of u n) (drops_due t w) ≤ 1
  own_once t u n =
      subst (λ x. x ≤ 1) (sym (drops_counted t u n (phasers_of t w)))
      (at_most (t == u) (times n (phasers_of t w)) (live_once t n))
    where
      at_most : (b : Bool) (x : ℕ) → x ≤ 1 → cond b x 0 ≤ 1
      at_most true x h = h
      at_most false x h = omega arith

  own_each : (t u n : ℕ) → list_any (is_drop_of u n) (drops_due t w) ≡ true
      → (t ≡ u) × (is_live u (phaser_past n w) ≡ true)
  own_each t u n h =
      let p = drop_listed t u n (phasers_of t w) h in
      let same : t ≡ u = eqb-true t u p.0 in
      (same, listed_live l u w k n (subst (λ v. has n (phasers_of v w) ≡ true) same p.1))

  other_none : (t u n : ℕ) → (t == u) ≡ false → how_many (is_drop_of u n) (drops_due t w) ≡ 0
  other_none t u n e = drops_counted t u n (phasers_of t w) ∙ ap (λ b. cond b (times n (phasers_of t w)) 0) e

  -- of several tasks' drops
  flat_each : (u n : ℕ) (cs : List ℕ) → list_any (is_drop_of u n) (flat_map (λ c. drops_due c w) cs) ≡ true
      → (has u cs ≡ true) × (is_live u (phaser_past n w) ≡ true)
  flat_each u n [] h = absurd (false≢true h)
  flat_each u n (c ∷ cs) h =
      let rest = flat_map (λ x. drops_due x w) cs in
      elim (or_cases (list_any (is_drop_of u n) (drops_due c w)) (list_any (is_drop_of u n) rest)
      (sym (list_any-append (is_drop_of u n) (drops_due c w) rest) ∙ h)) [
        | inl e ↦ let p = own_each c u n e in (or_left (c == u) (has u cs) (eq-eqb c u p.0), p.1)
        | inr e ↦ let p = flat_each u n cs e in (or_right (c == u) (has u cs) p.0, p.1)
      ]

  flat_none : (u n : ℕ) (cs : List ℕ) → has u cs ≡ false
      → how_many (is_drop_of u n) (flat_map (λ c. drops_due c w) cs) ≡ 0
  flat_none u n cs h =
      none_counted (is_drop_of u n) (flat_map (λ c. drops_due c w) cs)
      (false_from_ne_true (list_any (is_drop_of u n) (flat_map (λ c. drops_due c w) cs))
      (λ y. true≢false (sym (flat_each u n cs y).0 ∙ h)))

  flat_once : (u n : ℕ) (cs : List ℕ) → Apart cs
      → how_many (is_drop_of u n) (flat_map (λ c. drops_due c w) cs) ≤ 1
  flat_once u n [] a = omega arith
  flat_once u n (c ∷ cs) a =
      let rest = flat_map (λ x. drops_due x w) cs in
      subst (λ x. x ≤ 1) (sym (counted_both (is_drop_of u n) (drops_due c w) rest))
      (elim (cases_Bool (c == u)) [
        | inl e ↦
            let none : how_many (is_drop_of u n) rest ≡ 0 =
            flat_none u n cs (subst (λ v. has v cs ≡ false) (eqb-true c u e) a.0) in
            left_only (how_many (is_drop_of u n) (drops_due c w)) (how_many (is_drop_of u n) rest)
            (own_once c u n) none
        | inr e ↦
            right_only (how_many (is_drop_of u n) (drops_due c w)) (how_many (is_drop_of u n) rest)
            (other_none c u n e) (flat_once u n cs a.1)
      ])
    where
      left_only : (x y : ℕ) → x ≤ 1 → y ≡ 0 → x + y ≤ 1
      left_only x y h e = omega arith

      right_only : (x y : ℕ) → x ≡ 0 → y ≤ 1 → x + y ≤ 1
      right_only x y e h = omega arith

  -- what an end fixes
  ending_each : (t u n : ℕ) → list_any (is_drop_of u n) (ending t w) ≡ true
      → list_any (is_drop_of u n) (drops_due t w) ≡ true
  ending_each t u n h =
      let shuts = shuts_of (open_finishes t w) in
      elim (or_cases (list_any (is_drop_of u n) (drops_due t w ++ shuts))
      (list_any (is_drop_of u n) (last_of t w ∷ []))
      (sym (list_any-append (is_drop_of u n) (drops_due t w ++ shuts) (last_of t w ∷ [])) ∙ h)) [
        | inl e ↦
            elim (or_cases (list_any (is_drop_of u n) (drops_due t w)) (list_any (is_drop_of u n) shuts)
            (sym (list_any-append (is_drop_of u n) (drops_due t w) shuts) ∙ e)) [
              | inl y ↦ y
              | inr y ↦
                  absurd (true≢false (sym (list_any-append (is_drop_of u n) shuts (last_of t w ∷ [])
                  ∙ or_left (list_any (is_drop_of u n) shuts)
                  (list_any (is_drop_of u n) (last_of t w ∷ [])) y) ∙ tail_without_drops t u n w))
            ]
        | inr e ↦
            absurd (true≢false (sym (list_any-append (is_drop_of u n) shuts (last_of t w ∷ []) ∙ or_right
            (list_any (is_drop_of u n) shuts) (list_any (is_drop_of u n) (last_of t w ∷ [])) e)
            ∙ tail_without_drops t u n w))
      ]

  ending_counted : (t u n : ℕ)
      → how_many (is_drop_of u n) (ending t w) ≡ how_many (is_drop_of u n) (drops_due t w)
  ending_counted t u n =
      let shuts = shuts_of (open_finishes t w) in
      let p = is_drop_of u n in
      let both =
      or_parts (list_any p shuts) (list_any p (last_of t w ∷ []))
      (sym (list_any-append p shuts (last_of t w ∷ [])) ∙ tail_without_drops t u n w) in
      counted_both p (drops_due t w ++ shuts) (last_of t w ∷ [])
      ∙ (ap (λ x. x + how_many p (last_of t w ∷ [])) (counted_both p (drops_due t w) shuts)
      ∙ no_more (how_many p (drops_due t w)) (how_many p shuts) (how_many p (last_of t w ∷ []))
      (none_counted p shuts both.0) (none_counted p (last_of t w ∷ []) both.1))
    where
      no_more : (x y z : ℕ) → y ≡ 0 → z ≡ 0 → (x + y) + z ≡ x
      no_more x y z e f = omega arith

-- who named a child is its spawner, and no child is named twice
abbrev named_of : ℕ → List WorldEvent → List ℕ
named_of t w = filter_map (named_by t) w

pub named_is : (l : Limits) (w : List WorldEvent) → is_legal_world l w ≡ true → (t c : ℕ)
    → has c (named_of t w) ≡ true → (is_named c w ≡ true) × (spawner c w ≡ t)
named_is l [] k t c h = absurd (false≢true h)
named_is l (Begin u (Async x ps) ∷ w) k t c h =
    let e = Begin u (Async x ps) in
    let a = last_accepted l e w k in
    let older : has c (named_of t w) ≡ true → (is_named c (e ∷ w) ≡ true) × (spawner c (e ∷ w) ≡ t) = λ y.
    let b = named_is l w a.1 t c y in (named_later c e w b.0, spawner_later l c e w a.0 b.0 ∙ b.1) in
    elim (cases_Bool (u == t)) [
      | inr s ↦ older (subst (λ b. has c (cons_option (cond b (Some x) None) (named_of t w)) ≡ true) s h)
      | inl s ↦
          elim (or_cases (x == c) (has c (named_of t w))
          (subst (λ b. has c (cons_option (cond b (Some x) None) (named_of t w)) ≡ true) s h)) [
            | inl y ↦ (
              or_right (c == 0) ((x == c) || list_any (names c) w)
                  (or_left (x == c) (list_any (names c) w) y),
              rw y (eqb-true u t s),
            )
            | inr y ↦ older y
          ]
    ]
named_is l (e ∷ w) k t c h =
    let a = last_accepted l e w k in
    let b = named_is l w a.1 t c h in
    (named_later c e w b.0, spawner_later l c e w a.0 b.0 ∙ b.1)

pub named_apart : (l : Limits) (w : List WorldEvent) → is_legal_world l w ≡ true → (t : ℕ)
    → Apart (named_of t w)
named_apart l [] k t = tt
named_apart l (Begin u (Async x ps) ∷ w) k t =
    let a = last_accepted l (Begin u (Async x ps)) w k in
    let rest = named_apart l w a.1 t in
    let new : has x (named_of t w) ≡ false =
    false_from_ne_true (has x (named_of t w))
    (λ h. true≢false (sym (named_is l w a.1 t x h).0 ∙ names_fresh l w u x ps a.0)) in
    elim (u == t) as (λ b. Apart (cons_option (cond b (Some x) None) (named_of t w))) [
      | true ↦ (new, rest)
      | false ↦ rest
    ]
named_apart l (e ∷ w) k t = named_apart l w (last_accepted l e w k).1 t

module _ (l : Limits) (w : List WorldEvent) (k : is_legal_world l w ≡ true) (t : ℕ)
    (born : is_born t w ≡ true) where
  own_agent : agent t w ≡ t
  own_agent = ap (λ b. cond b t (spawner t w)) born

  -- an end's drops stand
  pub ending_stands : DropsStand t w (ending t w)
  ending_stands =
      record {
        each =
            λ u n h. let p =
            own_each l w k t u n (ending_each l w k t u n h) in
            (ap (λ v. agent v w) (sym p.0) ∙ own_agent, p.1);
        once = λ u n. subst (λ x. x ≤ 1) (sym (ending_counted l w k t u n)) (own_once l w k t u n);
      }

  unborn_is : (c : ℕ) → has c (unborn t w) ≡ true → (is_born c w ≡ false) × (spawner c w ≡ t)
  unborn_is c h =
      let p =
      and_parts (not (is_born c w)) (has c (named_of t w))
      (sym (has-filter (λ x. not (is_born x w)) c (named_of t w)) ∙ h) in
      (not-true (is_born c w) p.0, (named_is l w k t c p.1).1)

  -- a failure's too
  pub failing_stands : DropsStand t w (flat_map (λ c. drops_due c w) (unborn t w) ++ ending t w)
  failing_stands =
      let xs = flat_map (λ c. drops_due c w) (unborn t w) in
      let apart : Apart (unborn t w) =
      Apart-filter (λ c. not (is_born c w)) (named_of t w) (named_apart l w k t) in
      record {
        each =
            λ u n h. elim (or_cases (list_any (is_drop_of u n) xs) (list_any (is_drop_of u n) (ending t w))
            (sym (list_any-append (is_drop_of u n) xs (ending t w)) ∙ h)) [
              | inl y ↦
                  let p = flat_each l w k u n (unborn t w) y in
                  let b = unborn_is u p.0 in
                  (ap (λ z. cond z u (spawner u w)) b.0 ∙ b.1, p.1)
              | inr y ↦ ending_stands.each u n y
            ];
        once = λ u n.
            subst (λ x. x ≤ 1) (sym (counted_both (is_drop_of u n) xs (ending t w)
            ∙ ap (λ x. how_many (is_drop_of u n) xs + x) (ending_counted l w k t u n)))
            (elim (cases_Bool (t == u)) [
              | inl e ↦
                  let none : has u (unborn t w) ≡ false =
                  false_from_ne_true (has u (unborn t w)) (λ y. true≢false
                  (sym (subst (λ v. is_born v w ≡ true) (eqb-true t u e) born) ∙ (unborn_is u y).0)) in
                  right_only (how_many (is_drop_of u n) xs) (how_many (is_drop_of u n) (drops_due t w))
                  (flat_none l w k u n (unborn t w) none) (own_once l w k t u n)
              | inr e ↦
                  left_only (how_many (is_drop_of u n) xs) (how_many (is_drop_of u n) (drops_due t w))
                  (flat_once l w k u n (unborn t w) apart) (other_none l w k t u n e)
            ]);
      }
    where
      left_only : (x y : ℕ) → x ≤ 1 → y ≡ 0 → x + y ≤ 1
      left_only x y h e = omega arith

      right_only : (x y : ℕ) → x ≡ 0 → y ≤ 1 → x + y ≤ 1
      right_only x y e h = omega arith

  -- and those of a shut
  pub shut_stands : (f : ℕ) (p : ℕ → Bool)
      → DropsStand t w (drops_on t (filter p (phasers_of t w)) ++ Finish f Shutting ∷ [])
  shut_stands f p =
      let ns = filter p (phasers_of t w) in
      record {
        each =
            λ u n h. elim (or_cases (list_any (is_drop_of u n) (drops_on t ns)) false
            (sym (list_any-append (is_drop_of u n) (drops_on t ns) (Finish f Shutting ∷ [])) ∙ h)) [
              | inl y ↦
                  let q = drop_listed t u n ns y in
                  let same : t ≡ u = eqb-true t u q.0 in
                  let listed =
                  (and_parts (p n) (has n (phasers_of t w))
                  (sym (has-filter p n (phasers_of t w)) ∙ q.1)).1 in (
                    ap (λ v. agent v w) (sym same) ∙ own_agent,
                    listed_live l u w k n (subst (λ v. has n (phasers_of v w) ≡ true) same listed),
                  )
              | inr y ↦ absurd (false≢true y)
            ];
        once = λ u n.
            subst (λ x. x ≤ 1) (sym (counted_both (is_drop_of u n) (drops_on t ns) (Finish f Shutting ∷ [])
            ∙ ap (λ x. x + 0) (drops_counted t u n ns)))
            (at_most (t == u) (times n ns) (subst (λ x. x ≤ 1) (sym (times-filter p n (phasers_of t w)))
            (under (p n) (times n (phasers_of t w)) (live_once l w k t n))));
      }
    where
      under : (b : Bool) (x : ℕ) → x ≤ 1 → cond b x 0 ≤ 1
      under true x h = h
      under false x h = omega arith

      at_most : (b : Bool) (x : ℕ) → x ≤ 1 → cond b x 0 + 0 ≤ 1
      at_most true x h = omega arith
      at_most false x h = omega arith
