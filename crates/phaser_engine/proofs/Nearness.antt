-- What the least phase at which a waiter stands says of the bound.
use Rattle.std.proofs.Common.{◌≡◌, ℕ, max, ◌+◌, ◌-◌, ◌<◌, ◌≤◌, nat_lt, true, false, not, List, [], ◌∷◌, Some, None, refl, ap, sym, ◌∙◌, arith, inl, inr}
use Rattle.std.proofs.Math.Nat.{max-eq_right}
use Rattle.std.specs.List.{list_all}
use Rattle.std.proofs.lemmas.Bool.{cases_Bool, cases_lt, lt-ltb, le-ltb, and_from, and_left, and_right, or_left, or_right}
use Rattle.std.proofs.lemmas.List.Sums.{sum_by-cons}
use Rattle.phase_modes.specs.Mode.{can_wait}
use Rattle.reg_table.specs.declared.table.Entry.{Entry}
use Rattle.phaser_engine.specs.Rears.{IsLeast}
use Rattle.phaser_engine.specs.Line.{is_near, is_within, waits_at, waiters_at}
use Rattle.phaser_engine.proofs.Counting.{waits_there, waits_itself}

-- with no waiter b phases behind p or more, each line is near
all_near : (xs : List Entry) (b p : ℕ) → ((k : ℕ) → k + b ≤ p → waiters_at xs k ≡ 0)
    → list_all (λ e. is_near b p e.reg) xs ≡ true
all_near [] b p none = refl
all_near (x ∷ xs) b p none =
    let rest =
    all_near xs b p
    (λ k far. omega (arith, none k far, sum_by-cons (λ (e : Entry). waits_at k e.reg) x xs)) in
    let others = list_all (λ (e : Entry). is_near b p e.reg) xs in
    elim (cases_Bool (can_wait x.reg.mode)) [
      | inr e ↦
          and_from (is_near b p x.reg) others
          (or_left (not (can_wait x.reg.mode)) (nat_lt p (x.reg.phase + b)) (ap not e)) rest
      | inl e ↦ elim (cases_lt p (x.reg.phase + b)) [
        | inl near ↦
            and_from (is_near b p x.reg) others
            (or_right (not (can_wait x.reg.mode)) (nat_lt p (x.reg.phase + b))
            (lt-ltb p (x.reg.phase + b) near)) rest
        | inr far ↦
            absurd (omega (
              arith,
              none x.reg.phase far,
              sum_by-cons (λ (e : Entry). waits_at x.reg.phase e.reg) x xs,
              waits_itself x.reg e,
            ))
      ]
    ]

-- with a waiter at l, b phases behind p or more, not each line is near
one_far : (xs : List Entry) (b p l : ℕ) → l + b ≤ p → 0 < waiters_at xs l
    → list_all (λ e. is_near b p e.reg) xs ≡ false
one_far [] b p l far some = absurd (omega (arith, some))
one_far (x ∷ xs) b p l far some =
    let split : waiters_at (x ∷ xs) l ≡ waits_at l x.reg + waiters_at xs l =
    sum_by-cons (λ (e : Entry). waits_at l e.reg) x xs in
    let others = list_all (λ (e : Entry). is_near b p e.reg) xs in
    elim (cases_lt 0 (waits_at l x.reg)) [
      | inl here ↦
          let is = waits_there l x.reg here in
          let behind : nat_lt p (x.reg.phase + b) ≡ false =
          le-ltb p (x.reg.phase + b) (omega (arith, is.1, far)) in
          and_left (is_near b p x.reg) others (rw (is.0, behind) refl)
      | inr there ↦
          and_right (is_near b p x.reg) others (one_far xs b p l far (omega (arith, split, there, some)))
    ]

-- a bound that is at least 1 is what the definitions take for it
at_least_one : (b : ℕ) → 1 ≤ b → max 1 b ≡ b
at_least_one b k = max-eq_right k

-- nobody waits
pub within_none : (lines : List Entry) → IsLeast None (waiters_at lines) → (b p : ℕ)
    → true ≡ is_within (Some b) p lines
within_none lines least b p = sym (all_near lines (max 1 b) p (λ k far. least k))

-- the least phase at which a waiter stands decides, by how far it is behind
pub within_from : (lines : List Entry) (b p l m n : ℕ) → IsLeast (Some l) (waiters_at lines) → m ≡ p - l
    → n ≡ b → 1 ≤ n → nat_lt m n ≡ is_within (Some b) p lines
within_from lines b p l m n least gap same one =
    let bound : max 1 b ≡ b = at_least_one b (omega (arith, same, one)) in
    elim (cases_lt m n) [
      | inl near ↦
          lt-ltb m n near
          ∙ sym (all_near lines (max 1 b) p
          (λ k far. least.1 k (omega (arith, near, gap, same, bound, far))))
      | inr far ↦
          le-ltb m n far
          ∙ sym (one_far lines (max 1 b) p l (omega (arith, far, gap, same, bound, one)) least.0)
    ]
