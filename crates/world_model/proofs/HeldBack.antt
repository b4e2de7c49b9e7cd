-- Who holds a signal back: a waiter of the phaser that is behind the phase to be signalled.
use Rattle.std.proofs.Common.{◌≡◌, ℕ, ◌+◌, ◌<◌, ◌≤◌, Bool, true, false, not, nat_lt, List, [], ◌∷◌, Option, Some, None, inl, inr, arith}
use Rattle.std.specs.Prelude.{filter, max}
use Rattle.std.specs.List.{list_all}
use Rattle.std.proofs.lemmas.Bool.{or_parts, cases_Bool, true≢false}
use Rattle.phase_modes.specs.Mode.{can_wait}
use Rattle.phase_model.specs.declared.history.Event.{Event}
use Rattle.phase_model.specs.Tasks.{is_live, has_mode, registered_tasks}
use Rattle.phase_model.specs.Phases.{waits, is_near, is_within_bound}
use Rattle.std.proofs.lemmas.Bool.{ltb-false}

-- a task that is registered and hasn't come to phase p yet
pub record IsHeldBack (p : ℕ) (h : List Event) : Type 0 where
  pub by : ℕ
  pub live : is_live by h ≡ true
  pub behind : waits by h < p

fails_in : (p q : ℕ → Bool) (xs : List ℕ) → list_all p (filter q xs) ≡ false
    → (x : ℕ) × (q x ≡ true) × (p x ≡ false)
fails_in p q [] k = absurd (true≢false k)
fails_in p q (x ∷ xs) k =
    elim (cases_Bool (q x)) [
      | inr n ↦ fails_in p q xs (rw n at k)
      | inl y ↦
          elim (cases_Bool (p x)) [
            | inr n ↦ (x, y, n)
            | inl z ↦ fails_in p q xs (rw (y, z) at k)
          ]
    ]

pub held_back : (b : Option ℕ) (p : ℕ) (h : List Event) → is_within_bound b p h ≡ false → IsHeldBack p h
held_back None p h k = absurd (true≢false k)
held_back (Some b) p h k =
    let r = fails_in (is_near (max 1 b) p h) (λ t. is_live t h) (registered_tasks h) k in
    let far = (or_parts (not (has_mode can_wait r.0 h)) (nat_lt p (waits r.0 h + max 1 b)) r.2).1 in
    record { by = r.0; live = r.1; behind = behind p (waits r.0 h) b (ltb-false p (waits r.0 h + max 1 b) far) }
  where
    behind : (p v b : ℕ) → v + max 1 b ≤ p → v < p
    behind p v b k = omega (arith, one_or_more b)
      where
        one_or_more : (b : ℕ) → 1 ≤ max 1 b
        one_or_more b = omega arith
