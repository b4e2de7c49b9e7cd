-- Each phaser of a task stands once in the task's list, as long as the task is live on it.
use Rattle.std.proofs.Common.{◌≡◌, ℕ, ◌+◌, Bool, true, false, ◌&&◌, ◌||◌, ◌==◌, not, cond, List, [], ◌∷◌, ◌++◌, reverse, Some, None, refl, sym, subst, ap, ◌∙◌, inl, inr, arith}
use Rattle.std.specs.Prelude.{filter, filter_map}
use Rattle.std.specs.List.{cons_option}
use Rattle.std.proofs.lemmas.Bool.{and_parts, cases_Bool, eqb-true, true≢false}
use Rattle.std.proofs.lemmas.List.{reverse-append}
use Rattle.phase_modes.specs.declared.reg.Mode.{Mode}
use Rattle.phase_modes.specs.declared.limits.Limits.{Limits}
use Rattle.phase_model.specs.declared.terms.Terms.{Terms}
use Rattle.phase_model.specs.declared.history.Event.{Event}
use Rattle.phase_model.specs.declared.history.Event.TheVariants.{Make as Made, Reg as Registered}
use Rattle.phase_model.specs.Tasks.{registers, is_registered, is_dropped, is_live}
use Rattle.phase_model.specs.Rules.{is_permitted, has_room}
use Rattle.phase_model.proofs.Legal.{reg_follows}
use Rattle.world_model.specs.declared.event.Step.TheVariants.{Make, Reg}
use Rattle.world_model.specs.declared.event.WorldEvent.{WorldEvent}
use Rattle.world_model.specs.declared.event.WorldEvent.TheVariants.{Phaser}
use Rattle.world_model.specs.Parts.{terms_of, phaser_past}
use Rattle.world_model.specs.Tasks.{joined_by, phasers_of}
use Rattle.world_model.specs.Replies.{is_legal_world, is_accepted}
use Rattle.world_model.proofs.MadeMeans.{last_accepted}
use Rattle.world_model.proofs.PhasersLegal.{step_allowed, new_past, event_of}

-- how often n stands in the list
abbrev pub times : ℕ → List ℕ → ℕ
times n [] = 0
times n (m ∷ ms) = cond (m == n) (times n ms + 1) (times n ms)

add_under : (b : Bool) (x y : ℕ) → cond b ((x + y) + 1) (x + y) ≡ cond b (x + 1) x + y
add_under true x y = omega arith
add_under false x y = refl

times-append : (n : ℕ) (xs ys : List ℕ) → times n (xs ++ ys) ≡ times n xs + times n ys
times-append n [] ys = omega arith
times-append n (x ∷ xs) ys = rw (times-append n xs ys) (add_under (x == n) (times n xs) (times n ys))

comm_under : (b : Bool) (x : ℕ) → x + cond b (0 + 1) 0 ≡ cond b (x + 1) x
comm_under true x = omega arith
comm_under false x = omega arith

pub times-reverse : (n : ℕ) (xs : List ℕ) → times n (reverse xs) ≡ times n xs
times-reverse n [] = refl
times-reverse n (x ∷ xs) =
    ap (times n) (reverse-append (x ∷ []) xs)
    ∙ (times-append n (reverse xs) (x ∷ [])
    ∙ (ap (λ y. y + cond (x == n) (0 + 1) 0) (times-reverse n xs) ∙ comm_under (x == n) (times n xs)))

same_case : (n x : ℕ) (fs : List ℕ) (r : ℕ) (b : Bool) → (x == n) ≡ true → times n fs ≡ cond b r 0
    → times n (cond b (x ∷ fs) fs) ≡ cond b (r + 1) 0
same_case n x fs r true e k = rw e (ap (λ y. y + 1) k)
same_case n x fs r false e k = k

other_case : (n x : ℕ) (fs : List ℕ) (r : ℕ) (b : Bool) → (x == n) ≡ false → times n fs ≡ r
    → times n (cond b (x ∷ fs) fs) ≡ r
other_case n x fs r true e k = rw e k
other_case n x fs r false e k = k

pub times-filter : (p : ℕ → Bool) (n : ℕ) (xs : List ℕ) → times n (filter p xs) ≡ cond (p n) (times n xs) 0
times-filter p n [] = elim (p n) as (λ b. ◌≡◌ {A = ℕ} 0 (cond b 0 0)) [ true ↦ refl | false ↦ refl ]
times-filter p n (x ∷ xs) =
    let before : times n (filter p xs) ≡ cond (p n) (times n xs) 0 = times-filter p n xs in
    elim (cases_Bool (x == n)) [
      | inl e ↦
          let moved : times n (cond (p x) (x ∷ filter p xs) (filter p xs)) ≡ cond (p x) (times n xs + 1) 0 =
          same_case n x (filter p xs) (times n xs) (p x) e
          (before ∙ ap (λ v. cond (p v) (times n xs) 0) (sym (eqb-true x n e))) in
          moved ∙ (ap (λ v. cond (p v) (times n xs + 1) 0) (eqb-true x n e)
          ∙ ap (λ b. cond (p n) (cond b (times n xs + 1) (times n xs)) 0) (sym e))
      | inr e ↦
          other_case n x (filter p xs) (cond (p n) (times n xs) 0) (p x) e before
          ∙ ap (λ b. cond (p n) (cond b (times n xs + 1) (times n xs)) 0) (sym e)
    ]

-- how often t was registered on n
abbrev pub joins : ℕ → ℕ → List WorldEvent → ℕ
joins t n w = times n (filter_map (joined_by t) w)

-- an event that registers u on m, where a says that u is t and b that m is n
joins_by : (a b : Bool) (m n : ℕ) (js : List ℕ) → (m == n) ≡ b
    → times n (cons_option (cond a (Some m) None) js) ≡ cond (a && b) (times n js + 1) (times n js)
joins_by true b m n js e = ap (λ c. cond c (times n js + 1) (times n js)) e
joins_by false b m n js e = refl

registers_by : (t : ℕ) (e : Event) (h : List Event) (b : Bool)
    → is_registered t (cond b (e ∷ h) h) ≡ ((registers t e && b) || is_registered t h)
registers_by t e h true =
    elim (registers t e) as (λ a. (a || is_registered t h) ≡ ((a && true) || is_registered t h)) [
      | true ↦ refl
      | false ↦ refl
    ]
registers_by t e h false =
    elim (registers t e) as (λ a. is_registered t h ≡ ((a && false) || is_registered t h)) [
      | true ↦ refl
      | false ↦ refl
    ]

-- t was registered on n once or never
abbrev pub IsJoined : ℕ → ℕ → List WorldEvent → Type 0
IsJoined t n w = joins t n w ≡ cond (is_registered t (phaser_past n w)) 1 0

counted : (c r : Bool) (x y : ℕ) → x ≡ cond c (y + 1) y → y ≡ cond r 1 0 → (c ≡ true → r ≡ false)
    → x ≡ cond (c || r) 1 0
counted true true x y k h u = absurd (true≢false (u refl))
counted true false x y k h u = k ∙ ap (λ v. v + 1) h
counted false r x y k h u = k ∙ h

module _ (l : Limits) (w : List WorldEvent) (t n : ℕ) where
  -- a registration by a step on m
  joined_step : (m u : ℕ) (e : Event) → registers t e ≡ (u == t) → IsJoined t n w
      → (((u == t) && (m == n)) ≡ true → is_registered t (phaser_past n w) ≡ false)
      → times n (cons_option (cond (u == t) (Some m) None) (filter_map (joined_by t) w))
      ≡ cond (is_registered t (cond (m == n) (e ∷ phaser_past n w) (phaser_past n w))) 1 0
  joined_step m u e same before fresh =
      let js = filter_map (joined_by t) w in
      counted ((u == t) && (m == n)) (is_registered t (phaser_past n w))
      (times n (cons_option (cond (u == t) (Some m) None) js)) (times n js)
      (joins_by (u == t) (m == n) m n js refl) before fresh
      ∙ ap (λ b. cond b 1 0) (sym (registers_by t e (phaser_past n w) (m == n)
      ∙ ap (λ a. (a && (m == n)) || is_registered t (phaser_past n w)) same))

  -- a step that registers nobody
  joined_same : (m : ℕ) (e : Event) → registers t e ≡ false → IsJoined t n w
      → joins t n w ≡ cond (is_registered t (cond (m == n) (e ∷ phaser_past n w) (phaser_past n w))) 1 0
  joined_same m e none before =
      before ∙ ap (λ b. cond b 1 0) (sym (registers_by t e (phaser_past n w) (m == n)
      ∙ ap (λ a. (a && (m == n)) || is_registered t (phaser_past n w)) none))

  -- what a registration by step m finds
  fresh_make : (m u : ℕ) (mode : Mode) (terms : Terms) → is_accepted l w (Phaser m (Make u mode terms)) ≡ true
      → ((u == t) && (m == n)) ≡ true → is_registered t (phaser_past n w) ≡ false
  fresh_make m u mode terms k e =
      let a = and_parts (u == t) (m == n) e in
      ap (is_registered t)
      (subst (λ v. phaser_past v w ≡ []) (eqb-true m n a.1) (new_past l w m u mode terms k))

  fresh_reg : (m q u : ℕ) (mode : Mode) → is_accepted l w (Phaser m (Reg q u mode)) ≡ true
      → ((u == t) && (m == n)) ≡ true → is_registered t (phaser_past n w) ≡ false
  fresh_reg m q u mode k e =
      let a = and_parts (u == t) (m == n) e in
      let h = phaser_past m w in
      let p =
      and_parts (is_permitted l (terms_of m w) h (Registered q u mode))
      (has_room l (Registered q u mode ∷ h)) (step_allowed l w m (Reg q u mode) k) in
      let unknown : is_registered u h ≡ false = (reg_follows l (terms_of m w) h q u mode p.0).unknown in
      subst (λ v. is_registered t (phaser_past v w) ≡ false) (eqb-true m n a.1)
      (subst (λ v. is_registered v h ≡ false) (eqb-true u t a.0) unknown)

pub joined_once : (l : Limits) (w : List WorldEvent) → is_legal_world l w ≡ true → (t n : ℕ) → IsJoined t n w
joined_once l [] k t n = refl
joined_once l (Phaser m (Make u mode terms) ∷ w) k t n =
    let a = last_accepted l (Phaser m (Make u mode terms)) w k in
    joined_step l w t n m u (Made u mode) refl (joined_once l w a.1 t n) (fresh_make l w t n m u mode terms a.0)
joined_once l (Phaser m (Reg q u mode) ∷ w) k t n =
    let a = last_accepted l (Phaser m (Reg q u mode)) w k in
    joined_step l w t n m u (Registered q u mode) refl (joined_once l w a.1 t n)
    (fresh_reg l w t n m q u mode a.0)
joined_once l (Phaser m s ∷ w) k t n =
    joined_same l w t n m (event_of n w s) refl (joined_once l w (last_accepted l (Phaser m s) w k).1 t n)
joined_once l (e ∷ w) k t n = joined_once l w (last_accepted l e w k).1 t n

live_is : (a b : Bool) → ◌≡◌ {A = ℕ} (cond (a && b) (cond a 1 0) 0) (cond (a && b) 1 0)
live_is true true = refl
live_is true false = refl
live_is false b = refl

-- a task's list has each phaser on which it is live, once
pub phasers_once : (l : Limits) (w : List WorldEvent) → is_legal_world l w ≡ true → (t n : ℕ)
    → times n (phasers_of t w) ≡ cond (is_live t (phaser_past n w)) 1 0
phasers_once l w k t n =
    let h = phaser_past n w in
    times-filter (λ m. is_live t (phaser_past m w)) n (reverse (filter_map (joined_by t) w))
    ∙ (ap (λ x. cond (is_live t h) x 0) (times-reverse n (filter_map (joined_by t) w) ∙ joined_once l w k t n)
    ∙ live_is (is_registered t h) (not (is_dropped t h)))
