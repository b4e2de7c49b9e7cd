-- The phasers of a task that is registered by a step: as before, and the new one last.
use Rattle.std.proofs.Common.{◌≡◌, ℕ, ◌+◌, ◌==◌, Bool, true, false, cond, List, [], ◌∷◌, ◌++◌, reverse, Some, refl, sym, ap, ◌∙◌, inl, inr, arith}
use Rattle.std.specs.Prelude.{filter, filter_map}
use Rattle.std.proofs.lemmas.Bool.{cases_Bool}
use Rattle.std.proofs.lemmas.List.{reverse-append}
use Rattle.phase_model.specs.Tasks.{is_live}
use Rattle.world_model.specs.declared.event.Step.{Step}
use Rattle.world_model.specs.declared.event.WorldEvent.{WorldEvent}
use Rattle.world_model.specs.declared.event.WorldEvent.TheVariants.{Phaser}
use Rattle.world_model.specs.Parts.{terms_of, phaser_past, event_for}
use Rattle.world_model.specs.Tasks.{phasers_of, joined_by}
use Rattle.world_model.proofs.PhasersOnce.{times, times-reverse, joins}

-- two tests that agree but at n keep the same of a list in which n doesn't stand
filter_without : (p q : ℕ → Bool) (n : ℕ) (xs : List ℕ) → times n xs ≡ 0 → ((m : ℕ) → (n == m) ≡ false → p m ≡ q m) → filter p xs ≡ filter q xs
filter_without p q n [] e same = refl
filter_without p q n (x ∷ xs) e same =
    elim (cases_Bool (x == n)) [
      | inl k ↦ absurd (more (times n xs) (ap (λ b. cond b (times n xs + 1) (times n xs)) (sym k) ∙ e))
      | inr k ↦
          let other : (n == x) ≡ false = swapped x n k in
          let rest : filter p xs ≡ filter q xs = filter_without p q n xs (ap (λ b. cond b (times n xs + 1) (times n xs)) (sym k) ∙ e) same in
          rw (same x other) (ap (λ ys. cond (q x) (x ∷ ys) ys) rest)
    ]
  where
    more : (i : ℕ) → i + 1 ≡ 0 → ⊥
    more i h = absurd (omega (arith, h))

    swapped : (a b : ℕ) → (a == b) ≡ false → (b == a) ≡ false
    swapped a b h = grind arith

filter_last : (p : ℕ → Bool) (n : ℕ) (xs : List ℕ) → p n ≡ true → filter p (xs ++ n ∷ []) ≡ filter p xs ++ n ∷ []
filter_last p n [] e = rw e refl
filter_last p n (x ∷ xs) e =
    elim (p x) as (λ b. cond b (x ∷ filter p (xs ++ n ∷ [])) (filter p (xs ++ n ∷ [])) ≡ cond b (x ∷ filter p xs) (filter p xs) ++ n ∷ [])
    [ true ↦ ap (λ ys. x ∷ ys) (filter_last p n xs e) | false ↦ filter_last p n xs e ]

-- a number that is new to a list comes last in it
joined_last : (p q : ℕ → Bool) (n : ℕ) (js : List ℕ) → times n js ≡ 0 → p n ≡ true → ((m : ℕ) → (n == m) ≡ false → p m ≡ q m) → filter p (reverse (n ∷ js)) ≡ filter q (reverse js) ++ n ∷ []
joined_last p q n js none here same =
    ap (λ xs. filter p xs) (reverse-append (n ∷ []) js)
    ∙ (filter_last p n (reverse js) here
    ∙ ap (λ xs. xs ++ n ∷ []) (filter_without p q n (reverse js) (times-reverse n js ∙ none) same))

-- a step that registers the task itself, on a phaser on which it never was
pub own_joined : (u n : ℕ) (s : Step) (w : List WorldEvent) → joined_by u (Phaser n s) ≡ Some n → is_live u (phaser_past n (Phaser n s ∷ w)) ≡ true → joins u n w ≡ 0
    → phasers_of u (Phaser n s ∷ w) ≡ phasers_of u w ++ n ∷ []
own_joined u n s w here live none =
    rw here
    (joined_last (λ m. is_live u (phaser_past m (Phaser n s ∷ w))) (λ m. is_live u (phaser_past m w)) n (filter_map (joined_by u) w) none live
    (λ m k. ap (λ b. is_live u (cond b (event_for (terms_of m w) (phaser_past m w) s ∷ phaser_past m w) (phaser_past m w))) k))
