-- All tasks of a finish have ended exactly when its count is 0.
use Rattle.std.proofs.Common.{◌≡◌, ℕ, suc, ◌==◌, Bool, true, false, ◌&&◌, ◌||◌, not, List, [], ◌∷◌, filter, length, refl, ap, sym, subst, ◌∙◌, inl, inr, arith}
use Rattle.std.specs.List.{list_any, list_all}
use Rattle.std.proofs.lemmas.Bool.{cases_Bool, and_parts, or_parts, eqb-true, eq-eqb, not-true, true≢false, false≢true, false_from_ne_true}
use Rattle.finish_core.specs.declared.event.FinishEvent.{FinishEvent}
use Rattle.finish_core.specs.declared.event.FinishEvent.TheVariants.{Opened, Spawned, Ended, Shut}
use Rattle.finish_core.specs.Finish.{spawned_tasks, has_ended, is_allowed, is_legal_finish}
use Rattle.finish_core.proofs.Legal.{spawn_follows, end_follows, ended_was_spawned}
use Rattle.live_world.specs.Counts.{alive, CountsTell}

-- a list in which each number comes once
abbrev pub is_distinct : List ℕ → Bool
is_distinct [] = true
is_distinct (x ∷ xs) = not (list_any (λ u. u == x) xs) && is_distinct xs

-- those for whom a test holds, but one
taken : (p : ℕ → Bool) (t : ℕ) (xs : List ℕ) → list_any (λ u. u == t) xs ≡ false
    → filter (λ u. not ((t == u) || p u)) xs ≡ filter (λ u. not (p u)) xs
taken p t [] n = refl
taken p t (x ∷ xs) n =
    let parts = or_parts (x == t) (list_any (λ u. u == t) xs) n in
    let other : (t == x) ≡ false = false_from_ne_true (t == x) (λ e. true≢false (sym (eq-eqb x t (sym (eqb-true t x e))) ∙ parts.0)) in
    elim (cases_Bool (p x)) [
      | inl e ↦ rw (other, e) (taken p t xs parts.1)
      | inr e ↦ rw (other, e) (ap (λ r. x ∷ r) (taken p t xs parts.1))
    ]

one_less : (p : ℕ → Bool) (t : ℕ) (xs : List ℕ) → is_distinct xs ≡ true → list_any (λ u. u == t) xs ≡ true → p t ≡ false
    → length (filter (λ u. not (p u)) xs) ≡ suc (length (filter (λ u. not ((t == u) || p u)) xs))
one_less p t [] d h k = absurd (false≢true h)
one_less p t (x ∷ xs) d h k =
    let parts = and_parts (not (list_any (λ u. u == x) xs)) (is_distinct xs) d in
    elim (cases_Bool (x == t)) [
      | inl e ↦
          let is : x ≡ t = eqb-true x t e in
          let none : list_any (λ u. u == t) xs ≡ false =
          subst (λ y. list_any (λ u. u == y) xs ≡ false) is (not-true (list_any (λ u. u == x) xs) parts.0) in
          let here : (t == x) ≡ true = eq-eqb t x (sym is) in
          let free : p x ≡ false = subst (λ y. p y ≡ false) (sym is) k in
          rw (here, free) (ap (λ r. suc (length r)) (sym (taken p t xs none)))
      | inr e ↦
          let there : list_any (λ u. u == t) xs ≡ true = subst (λ b. (b || list_any (λ u. u == t) xs) ≡ true) e h in
          let other : (t == x) ≡ false = false_from_ne_true (t == x) (λ y. true≢false (sym (eq-eqb x t (sym (eqb-true t x y))) ∙ e)) in
          elim (cases_Bool (p x)) [
            | inl y ↦ rw (other, y) (one_less p t xs parts.1 there k)
            | inr y ↦ rw (other, y) (ap (λ n. suc n) (one_less p t xs parts.1 there k))
          ]
    ]

-- those who go on
abbrev going : List FinishEvent → List ℕ
going h = filter (λ t. not (has_ended t h)) (spawned_tasks h)

distinct : (tasks : ℕ) (h : List FinishEvent) → is_legal_finish tasks h ≡ true → is_distinct (spawned_tasks h) ≡ true
distinct tasks [] k = refl
distinct tasks (Spawned t ∷ h) k =
    let parts = and_parts (is_allowed tasks h (Spawned t)) (is_legal_finish tasks h) k in
    rw (spawn_follows tasks h t parts.0).new (distinct tasks h parts.1)
distinct tasks (Opened t ∷ h) k = distinct tasks h (and_parts (is_allowed tasks h (Opened t)) (is_legal_finish tasks h) k).1
distinct tasks (Ended t ∷ h) k = distinct tasks h (and_parts (is_allowed tasks h (Ended t)) (is_legal_finish tasks h) k).1
distinct tasks (Shut ∷ h) k = distinct tasks h (and_parts (is_allowed tasks h Shut) (is_legal_finish tasks h) k).1

counted : (tasks : ℕ) (h : List FinishEvent) → is_legal_finish tasks h ≡ true → length (going h) ≡ alive h
counted tasks [] k = refl
counted tasks (Opened t ∷ h) k = counted tasks h (and_parts (is_allowed tasks h (Opened t)) (is_legal_finish tasks h) k).1
counted tasks (Shut ∷ h) k = counted tasks h (and_parts (is_allowed tasks h Shut) (is_legal_finish tasks h) k).1
counted tasks (Spawned t ∷ h) k =
    let parts = and_parts (is_allowed tasks h (Spawned t)) (is_legal_finish tasks h) k in
    let fresh : has_ended t h ≡ false =
    false_from_ne_true (has_ended t h) (λ e. true≢false
    (sym (ended_was_spawned tasks h parts.1 t e) ∙ (spawn_follows tasks h t parts.0).new)) in
    rw fresh (ap (λ n. suc n) (counted tasks h parts.1))
counted tasks (Ended t ∷ h) k =
    let parts = and_parts (is_allowed tasks h (Ended t)) (is_legal_finish tasks h) k in
    let f = end_follows tasks h t parts.0 in
    let less = one_less (λ u. has_ended u h) t (spawned_tasks h) (distinct tasks h parts.1) f.spawned f.running in
    omega (arith, less, counted tasks h parts.1)

some_left : (n : ℕ) → false ≡ (suc n == 0)
some_left n = sym (false_from_ne_true (suc n == 0) (λ e. never n (eqb-true (suc n) 0 e)))
  where
    never : (n : ℕ) → suc n ≡ 0 → ⊥
    never n e = omega arith

-- a list of which all fail has nobody for whom it doesn't
none_left : (p : ℕ → Bool) (xs : List ℕ) → list_all p xs ≡ (length (filter (λ u. not (p u)) xs) == 0)
none_left p [] = refl
none_left p (x ∷ xs) =
    elim (cases_Bool (p x)) [
      | inl e ↦ rw e (none_left p xs)
      | inr e ↦ rw e (some_left (length (filter (λ u. not (p u)) xs)))
    ]

pub counts_tell : CountsTell
counts_tell tasks h k =
    none_left (λ t. has_ended t h) (spawned_tasks h) ∙ ap (λ n. n == 0) (counted tasks h k)
