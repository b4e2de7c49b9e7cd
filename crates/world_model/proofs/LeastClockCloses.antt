-- The core of going on: where each signaller of a phaser has signalled in its turn or is later than t, and no
-- clock is behind t's, the phase for which t waits is closed.
use Rattle.std.proofs.Common.{◌≡◌, ◌⊎◌, ℕ, ◌+◌, ◌<◌, ◌≤◌, Bool, true, false, not, cond, nat_lt, List, [], ◌∷◌, refl, subst, ap, inl, inr, arith}
use Rattle.std.specs.Prelude.{filter}
use Rattle.std.specs.List.{list_all}
use Rattle.std.proofs.lemmas.Bool.{and_from, cases_Bool, lt-ltb, or_left, or_right}
use Rattle.phase_modes.specs.declared.limits.Limits.{Limits}
use Rattle.phase_modes.specs.Mode.{can_signal}
use Rattle.phase_model.specs.declared.history.Event.{Event}
use Rattle.phase_model.specs.Tasks.{is_live, has_mode, registered_tasks}
use Rattle.phase_model.specs.Phases.{waits, signals, is_past, is_closed}
use Rattle.phase_model.proofs.Legal.{at_or_ahead}
use Rattle.world_model.specs.declared.event.WorldEvent.{WorldEvent}
use Rattle.world_model.specs.Parts.{terms_of, phaser_past}
use Rattle.world_model.specs.Tasks.{is_born}
use Rattle.world_model.specs.Clock.{clock, base}
use Rattle.world_model.specs.Replies.{is_legal_world}
use Rattle.world_model.specs.TaskConditions.{last_entry}
use Rattle.world_model.specs.ClockLaws.{has_passed, leads_to_end}
use Rattle.world_model.proofs.PhasersLegal.{phasers_legal}
use Rattle.world_model.proofs.ClocksAgree.{clocks_agree}

all_filter : (p q : ℕ → Bool) (xs : List ℕ) → ((x : ℕ) → q x ≡ true → p x ≡ true)
    → list_all p (filter q xs) ≡ true
all_filter p q [] k = refl
all_filter p q (x ∷ xs) k =
    elim (cases_Bool (q x)) [
      | inl e ↦ rw e (and_from (p x) (list_all p (filter q xs)) (k x e) (all_filter p q xs k))
      | inr e ↦ rw e (all_filter p q xs k)
    ]

closed_by : (p : ℕ) (h : List Event) → ((t : ℕ) → is_live t h ≡ true → is_past p h t ≡ true)
    → is_closed p h ≡ true
closed_by p h k = all_filter (is_past p h) (λ t. is_live t h) (registered_tasks h) k

-- s can go on, is no earlier than t, and has passed phaser n or signalled on it, or is later than t
pub record IsAlong (t s n : ℕ) (w : List WorldEvent) : Type 0 where
  pub born : is_born s w ≡ true
  pub goes_on : leads_to_end (last_entry s w) ≡ false
  pub no_earlier : clock t w ≤ clock s w
  pub there : (has_passed s n w ≡ true) ⊎ (signals s (phaser_past n w) ≡ waits s (phaser_past n w) + 1)
      ⊎ (clock t w < clock s w)

passed_past : (wt ws ss ct cs b : ℕ) → wt + b ≡ ct + 0 → ws + b ≡ cs + 1 → ct ≤ cs
    → (ss ≡ ws) ⊎ (ss ≡ ws + 1) → wt < ss
passed_past wt ws ss ct cs b p q k (inl e) = omega arith
passed_past wt ws ss ct cs b p q k (inr e) = omega arith

ahead_past : (wt ws ss ct cs b : ℕ) (x : Bool) → wt + b ≡ ct + 0 → ws + b ≡ cs + cond x 1 0 → ct ≤ cs
    → ss ≡ ws + 1 → wt < ss
ahead_past wt ws ss ct cs b true p q k e = ahead_one wt ws ss ct cs b p q k e
  where
    ahead_one : (wt ws ss ct cs b : ℕ) → wt + b ≡ ct + 0 → ws + b ≡ cs + 1 → ct ≤ cs → ss ≡ ws + 1 → wt < ss
    ahead_one wt ws ss ct cs b p q k e = omega arith
ahead_past wt ws ss ct cs b false p q k e = ahead_none wt ws ss ct cs b p q k e
  where
    ahead_none : (wt ws ss ct cs b : ℕ) → wt + b ≡ ct + 0 → ws + b ≡ cs + 0 → ct ≤ cs → ss ≡ ws + 1 → wt < ss
    ahead_none wt ws ss ct cs b p q k e = omega arith

-- who is later has passed more often, and so has signalled more often
later_past : (wt ws ss ct cs b : ℕ) (x : Bool) → wt + b ≡ ct + 0 → ws + b ≡ cs + cond x 1 0 → ct < cs
    → (ss ≡ ws) ⊎ (ss ≡ ws + 1) → wt < ss
later_past wt ws ss ct cs b x p q k e = after_it wt ws ss ct cs b (cond x 1 0) p q k (no_less ss ws e)
  where
    no_less : (ss ws : ℕ) → (ss ≡ ws) ⊎ (ss ≡ ws + 1) → ws ≤ ss
    no_less ss ws (inl e) = omega arith
    no_less ss ws (inr e) = omega arith

    after_it : (wt ws ss ct cs b y : ℕ) → wt + b ≡ ct + 0 → ws + b ≡ cs + y → ct < cs → ws ≤ ss → wt < ss
    after_it wt ws ss ct cs b y p q k e = omega arith

module _ (l : Limits) (w : List WorldEvent) (k : is_legal_world l w ≡ true) (t n : ℕ)
    (live : is_live t (phaser_past n w) ≡ true) (born : is_born t w ≡ true)
    (goes_on : leads_to_end (last_entry t w) ≡ false) (waiting : has_passed t n w ≡ false)
    (along : (s : ℕ) → is_live s (phaser_past n w) ≡ true → has_mode can_signal s (phaser_past n w) ≡ true
    → IsAlong t s n w) where
  own : waits t (phaser_past n w) + base n w ≡ clock t w + 0
  own =
      subst (λ b. waits t (phaser_past n w) + base n w ≡ clock t w + cond b 1 0) waiting
      (clocks_agree l w k t n live born goes_on)

  before_it : (s : ℕ) → is_live s (phaser_past n w) ≡ true → has_mode can_signal s (phaser_past n w) ≡ true
      → waits t (phaser_past n w) < signals s (phaser_past n w)
  before_it s v m =
      let h = phaser_past n w in
      let a = along s v m in
      let law = clocks_agree l w k s n v a.born a.goes_on in
      elim a.there [
        | inl p ↦
            passed_past (waits t h) (waits s h) (signals s h) (clock t w) (clock s w) (base n w) own
            (subst (λ b. waits s h + base n w ≡ clock s w + cond b 1 0) p law) a.no_earlier
            (at_or_ahead l (terms_of n w) h (phasers_legal l w k n) s m)
        | inr r ↦
            elim r [
              | inl p ↦
                  ahead_past (waits t h) (waits s h) (signals s h) (clock t w) (clock s w) (base n w)
                  (has_passed s n w) own law a.no_earlier p
              | inr p ↦
                  later_past (waits t h) (waits s h) (signals s h) (clock t w) (clock s w) (base n w)
                  (has_passed s n w) own law p (at_or_ahead l (terms_of n w) h (phasers_legal l w k n) s m)
            ]
      ]

  -- the phase for which t waits is closed
  pub phase_closed : is_closed (waits t (phaser_past n w)) (phaser_past n w) ≡ true
  phase_closed =
      closed_by (waits t (phaser_past n w)) (phaser_past n w) (λ s v.
      elim (cases_Bool (has_mode can_signal s (phaser_past n w))) [
        | inl m ↦
            or_right (not (has_mode can_signal s (phaser_past n w)))
            (nat_lt (waits t (phaser_past n w)) (signals s (phaser_past n w)))
            (lt-ltb (waits t (phaser_past n w)) (signals s (phaser_past n w)) (before_it s v m))
        | inr m ↦
            or_left (not (has_mode can_signal s (phaser_past n w)))
            (nat_lt (waits t (phaser_past n w)) (signals s (phaser_past n w))) (ap (λ b. not b) m)
      ])
