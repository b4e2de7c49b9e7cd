-- The children of a history by the places of their spawns: each has one place, and each place one child.
use Rattle.std.proofs.Common.{◌≡◌, ℕ, ◌+◌, ◌<◌, true, false, ◌||◌, ◌==◌, cond, List, [], ◌∷◌, Some, refl, sym, subst, ap, ◌∙◌, inl, inr, arith}
use Rattle.std.specs.List.{list_any}
use Rattle.std.proofs.lemmas.Bool.{or_cases, or_left, or_right, cases_Bool, eqb-true, eq-eqb, ne_eqb, true≢false, false≢true, false_from_ne_true}
use Rattle.std.proofs.lemmas.Option.{same_Some, none-some}
use Rattle.phase_modes.specs.declared.limits.Limits.{Limits}
use Rattle.world_model.specs.declared.event.Begun.TheVariants.{Async}
use Rattle.world_model.specs.declared.event.WorldEvent.{WorldEvent}
use Rattle.world_model.specs.declared.event.WorldEvent.TheVariants.{Begin}
use Rattle.world_model.specs.Numbers.{names, is_named}
use Rattle.world_model.specs.Replies.{is_legal_world, is_accepted}
use Rattle.world_model.proofs.MadeMeans.{last_accepted}
use Rattle.world_model.proofs.SpawnUnderWay.{names_fresh}
use Rattle.job_kernels.proofs.Numbers.{none_below_zero, same_not_lt}
use Rattle.job_kernels.proofs.Plain.{spawned, child_at}

-- a place is that of a spawn which was begun
pub at_below : (i c : ℕ) (w : List WorldEvent) → child_at i w ≡ Some c → i < spawned w
at_below i c [] h = absurd (none-some c h)
at_below i c (Begin u (Async x ps) ∷ w) h =
    elim (cases_Bool (spawned w == i)) [
      | inl e ↦ next (eqb-true (spawned w) i e)
      | inr e ↦ later (at_below i c w (subst (λ b. cond b (Some x) (child_at i w) ≡ Some c) e h))
    ]
  where
    next : spawned w ≡ i → i < spawned w + 1
    next s = omega arith

    later : i < spawned w → i < spawned w + 1
    later s = omega arith
at_below i c (e ∷ w) h = at_below i c w h

-- and each such place has a child
pub there_is : (i : ℕ) (w : List WorldEvent) → i < spawned w → (c : ℕ) × (child_at i w ≡ Some c)
there_is i [] h = absurd (none_below_zero i h)
there_is i (Begin u (Async x ps) ∷ w) h =
    elim (cases_Bool (spawned w == i)) [
      | inl e ↦ (x, rw e refl)
      | inr e ↦
          let r = there_is i w (less (λ s. true≢false (sym (eq-eqb (spawned w) i s) ∙ e)) h) in
          (r.0, subst (λ b. cond b (Some x) (child_at i w) ≡ Some r.0) (sym e) r.1)
    ]
  where
    less : (spawned w ≡ i → ⊥) → i < spawned w + 1 → i < spawned w
    less n k = grind (arith, n)
there_is i (e ∷ w) h = there_is i w h

-- a child was named
pub child_named : (i c : ℕ) (w : List WorldEvent) → child_at i w ≡ Some c → is_named c w ≡ true
child_named i c [] h = absurd (none-some c h)
child_named i c (Begin u (Async x ps) ∷ w) h =
    elim (cases_Bool (spawned w == i)) [
      | inl e ↦
          let same : x ≡ c = same_Some x c (subst (λ b. cond b (Some x) (child_at i w) ≡ Some c) e h) in
          or_right (c == 0) ((x == c) || list_any (names c) w)
          (or_left (x == c) (list_any (names c) w) (eq-eqb x c same))
      | inr e ↦
          elim (or_cases (c == 0) (list_any (names c) w)
          (child_named i c w (subst (λ b. cond b (Some x) (child_at i w) ≡ Some c) e h))) [
            | inl z ↦ or_left (c == 0) ((x == c) || list_any (names c) w) z
            | inr z ↦
                or_right (c == 0) ((x == c) || list_any (names c) w)
                (or_right (x == c) (list_any (names c) w) z)
          ]
    ]
child_named i c (e ∷ w) h = child_named i c w h

-- and is not the root
pub child_no_root : (l : Limits) (i c : ℕ) (w : List WorldEvent) → is_legal_world l w ≡ true
    → child_at i w ≡ Some c → (c == 0) ≡ false
child_no_root l i c [] k h = absurd (none-some c h)
child_no_root l i c (Begin u (Async x ps) ∷ w) k h =
    let a = last_accepted l (Begin u (Async x ps)) w k in
    elim (cases_Bool (spawned w == i)) [
      | inl e ↦
          let same : x ≡ c = same_Some x c (subst (λ b. cond b (Some x) (child_at i w) ≡ Some c) e h) in
          false_from_ne_true (c == 0) (λ z. true≢false
          (sym (or_left (x == 0) (list_any (names x) w) (subst (λ v. (v == 0) ≡ true) (sym same) z))
          ∙ names_fresh l w u x ps a.0))
      | inr e ↦ child_no_root l i c w a.1 (subst (λ b. cond b (Some x) (child_at i w) ≡ Some c) e h)
    ]
child_no_root l i c (e ∷ w) k h = child_no_root l i c w (last_accepted l e w k).1 h

-- whoever was named, but for the root, is the child of a place
pub named_child : (c : ℕ) (w : List WorldEvent) → (c == 0) ≡ false → is_named c w ≡ true
    → (i : ℕ) × (child_at i w ≡ Some c)
named_child c [] z h =
    absurd (elim (or_cases (c == 0) false h) as (λ x. ⊥) [
      | inl y ↦ true≢false (sym y ∙ z)
      | inr y ↦ false≢true y
    ])
named_child c (Begin u (Async x ps) ∷ w) z h =
    elim (cases_Bool (x == c)) [
      | inl e ↦ (spawned w, rw (eq-eqb (spawned w) (spawned w) refl) (ap (λ v. Some v) (eqb-true x c e)))
      | inr e ↦
          let before : is_named c w ≡ true =
          subst (λ b. (c == 0 || (b || list_any (names c) w)) ≡ true) e h in
          let r = named_child c w z before in
          let other : (spawned w == r.0) ≡ false =
          ne_eqb (spawned w) r.0 (λ s. same_not_lt (spawned w) r.0 s (at_below r.0 c w r.1)) in
          (r.0, subst (λ b. cond b (Some x) (child_at r.0 w) ≡ Some c) (sym other) r.1)
    ]
named_child c (e ∷ w) z h = named_child c w z h

-- no child has two places
pub one_place : (l : Limits) (i j c : ℕ) (w : List WorldEvent) → is_legal_world l w ≡ true
    → child_at i w ≡ Some c → child_at j w ≡ Some c → i ≡ j
one_place l i j c [] k h g = absurd (none-some c h)
one_place l i j c (Begin u (Async x ps) ∷ w) k h g =
    let a = last_accepted l (Begin u (Async x ps)) w k in
    elim (cases_Bool (spawned w == i)) [
      | inl e ↦ elim (cases_Bool (spawned w == j)) [
        | inl f ↦ sym (eqb-true (spawned w) i e) ∙ eqb-true (spawned w) j f
        | inr f ↦
            absurd (new_is_old j a.0
            (same_Some x c (subst (λ b. cond b (Some x) (child_at i w) ≡ Some c) e h))
            (subst (λ b. cond b (Some x) (child_at j w) ≡ Some c) f g))
      ]
      | inr e ↦ elim (cases_Bool (spawned w == j)) [
        | inl f ↦
            absurd (new_is_old i a.0
            (same_Some x c (subst (λ b. cond b (Some x) (child_at j w) ≡ Some c) f g))
            (subst (λ b. cond b (Some x) (child_at i w) ≡ Some c) e h))
        | inr f ↦
            one_place l i j c w a.1 (subst (λ b. cond b (Some x) (child_at i w) ≡ Some c) e h)
            (subst (λ b. cond b (Some x) (child_at j w) ≡ Some c) f g)
      ]
    ]
  where
    new_is_old : (y : ℕ) → is_accepted l w (Begin u (Async x ps)) ≡ true → x ≡ c → child_at y w ≡ Some c → ⊥
    new_is_old y a s old =
        true≢false (sym (child_named y c w old)
        ∙ subst (λ v. is_named v w ≡ false) s (names_fresh l w u x ps a))
one_place l i j c (e ∷ w) k h g = one_place l i j c w (last_accepted l e w k).1 h g
