-- The clock law, event by event.
use Rattle.phase_modes.specs.Lists.{is_empty}
use Rattle.std.proofs.Common.{◌≡◌, ℕ, ◌+◌, Bool, true, false, ◌&&◌, ◌||◌, ◌==◌, not, cond, List, [], ◌∷◌, refl, subst, ap, ◌∙◌, inl, inr, arith}
use Rattle.std.specs.Prelude.{drop}
use Rattle.std.specs.List.{list_any}
use Rattle.std.proofs.lemmas.Bool.{cases_Bool, eqb-true, true≢false}
use Rattle.phase_model.specs.Phases.{waits}
use Rattle.world_model.specs.declared.event.Step.TheVariants.{Pass}
use Rattle.world_model.specs.declared.event.WorldEvent.{WorldEvent}
use Rattle.world_model.specs.declared.event.WorldEvent.TheVariants.{Phaser}
use Rattle.world_model.specs.Parts.{phaser_past}
use Rattle.world_model.specs.Due.{due}
use Rattle.world_model.specs.Clock.{clock, base}
use Rattle.world_model.specs.TaskConditions.{last_entry}
use Rattle.world_model.specs.ClockLaws.{has_passed, clock_here, begins_turn, is_pass_on}
use Rattle.world_model.proofs.OthersLeave.{due_own}
use Rattle.world_model.proofs.SmallWords.{eq_self}

-- the law for task t on phaser n
abbrev pub ClockLaw : ℕ → ℕ → List WorldEvent → Type 0
ClockLaw t n w = waits t (phaser_past n w) + base n w ≡ clock_here t n w

abbrev one_if : Bool → ℕ
one_if b = cond b 1 0

last_here : (x b c : ℕ) → x + b ≡ c + 0 → (x + 1) + b ≡ (c + 1) + 0
last_here x b c k = omega arith

more_here : (x b c : ℕ) → x + b ≡ c + 0 → (x + 1) + b ≡ c + 1
more_here x b c k = omega arith

last_there : (x b c : ℕ) → x + b ≡ c + 1 → x + b ≡ (c + 1) + 0
last_there x b c k = omega arith

-- a task's own pass: what it has passed moves, and with the last pass its clock
module _ (t n : ℕ) (w : List WorldEvent) (ds : List WorldEvent)
    (turn : begins_turn (last_entry t w) ≡ true)
    (now : due t w ≡ Phaser n (Pass t) ∷ ds)
    (once : list_any (is_pass_on n) ds ≡ false) where
  abbrev after : List WorldEvent
  after = Phaser n (Pass t) ∷ w

  due_after : due t after ≡ ds
  due_after = due_own t (Phaser n (Pass t)) w refl (eq_self t) refl ∙ ap (λ x. drop 1 x) now

  passed_before : (k : ℕ) → has_passed t k w ≡ not ((n == k) || list_any (is_pass_on k) ds)
  passed_before k = rw (turn, now) refl

  passed_after : (k : ℕ) → has_passed t k after ≡ (not (is_empty ds) && not (list_any (is_pass_on k) ds))
  passed_after k =
      ap (λ d. begins_turn (last_entry t w) && not (is_empty d) && not (list_any (is_pass_on k) d)) due_after
      ∙ rw turn refl

  clock_after : clock t after ≡ cond (is_empty ds) (clock t w + 1) (clock t w)
  clock_after = rw (eq_self t, now) refl

  -- waits on the phaser passed, and on another
  waits_here : waits t (phaser_past n after) ≡ waits t (phaser_past n w) + 1
  waits_here = rw (eq_self n, eq_self t) refl

  waits_there : (k : ℕ) → (n == k) ≡ false → waits t (phaser_past k after) ≡ waits t (phaser_past k w)
  waits_there k e = rw e refl

  sums : (x b c : ℕ) (e : Bool) → x + b ≡ c + 0 → (x + 1) + b ≡ cond e (c + 1) c + one_if (not e && true)
  sums x b c true k = last_here x b c k
  sums x b c false k = more_here x b c k

  others : (x b c : ℕ) (e p : Bool) → (e ≡ true → p ≡ false) → x + b ≡ c + one_if (not p)
      → x + b ≡ cond e (c + 1) c + one_if (not e && not p)
  others x b c true true h k = absurd (true≢false (h refl))
  others x b c true false h k = last_there x b c k
  others x b c false p h k = k

  none_left : (k : ℕ) (xs : List WorldEvent) → is_empty xs ≡ true → list_any (is_pass_on k) xs ≡ false
  none_left k [] e = refl
  none_left k (x ∷ xs) e = absurd cc

  first_here : not ((n == n) || list_any (is_pass_on n) ds) ≡ false
  first_here = rw (eq_self n) refl

  first_there : (k : ℕ) → (n == k) ≡ false
      → not ((n == k) || list_any (is_pass_on k) ds) ≡ not (list_any (is_pass_on k) ds)
  first_there k e = rw e refl

  pub pass_row_here : ClockLaw t n w → ClockLaw t n after
  pass_row_here k =
      let before : waits t (phaser_past n w) + base n w ≡ clock t w + 0 =
      subst (λ b. waits t (phaser_past n w) + base n w ≡ clock t w + one_if b)
      (passed_before n ∙ first_here) k in
      let goal = sums (waits t (phaser_past n w)) (base n w) (clock t w) (is_empty ds) before in
      rw (waits_here, clock_after, passed_after n, once) goal

  pub pass_row_there : (k : ℕ) → (n == k) ≡ false → ClockLaw t k w → ClockLaw t k after
  pass_row_there k e law =
      let p = list_any (is_pass_on k) ds in
      let before : waits t (phaser_past k w) + base k w ≡ clock t w + one_if (not p) =
      subst (λ b. waits t (phaser_past k w) + base k w ≡ clock t w + one_if b)
      (passed_before k ∙ first_there k e) law in
      let goal =
      others (waits t (phaser_past k w)) (base k w) (clock t w) (is_empty ds) p (none_left k ds) before in
      rw (waits_there k e, clock_after, passed_after k) goal

  -- the row of a pass: it keeps the clock law on each phaser of the task
  pub pass_row : ((k : ℕ) → ClockLaw t k w) → (k : ℕ) → ClockLaw t k after
  pass_row law k =
      elim (cases_Bool (n == k)) [
        | inl e ↦ subst (λ v. ClockLaw t v after) (eqb-true n k e) (pass_row_here (law n))
        | inr e ↦ pass_row_there k e (law k)
      ]
