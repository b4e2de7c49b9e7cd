-- How many of a roll's lines stand at a phase, what the rear says of the lines, and how an edit of the lines
-- changes it.
use Rattle.std.proofs.Common.{◌≡◌, ℕ, zero, suc, ◌+◌, ◌<◌, ◌≤◌, ◌^◌, ◌==◌, ◌≢◌, nat_lt, Bool, true, false, ◌&&◌, not, cond, List, [], ◌∷◌, Option, Some, None, length, get_or, take, slice_get, set, refl, ap, sym, ◌∙◌, arith, inl, inr}
use Rattle.std.specs.List.{sum_by, list_all, list_any, insert, remove}
use Rattle.std.proofs.lemmas.Bool.{cases_Bool, cases_lt, lt-ltb, le-ltb, eq-eqb, eqb-true, ne_eqb, and_parts, and_from, and_left, and_right, or_left, or_right}
use Rattle.std.proofs.lemmas.List.Edits.{length-insert}
use Rattle.std.proofs.lemmas.List.Sums.{sum_by-cons, sum_by-set, sum_by-insert, sum_by-remove, sum_by_more, get_or-le-sum_by}
use Rattle.std.proofs.lemmas.Option.{slice_get_within, get_or_from_slice_get}
use Rattle.phase_modes.specs.declared.reg.Reg.{Reg}
use Rattle.phase_modes.specs.Mode.{can_signal, can_wait}
use Rattle.phase_modes.specs.Reg.{signals_of}
use Rattle.reg_table.specs.declared.table.Entry.{Entry}
use Rattle.reg_table.specs.Lines.{line_signalled, line_passed}
use Rattle.phaser_engine.specs.declared.rear.Rear.{Rear}
use Rattle.phaser_engine.specs.Rears.{IsRear, IsLeast, HasEntered, HasLeft, NobodyUpTo}
use Rattle.phaser_engine.specs.Line.{has_signalled, has_passed, is_waiter_past, stands_at, waits_at, signallers_at, waiters_at, IsToSignal, IsToPass, IsRoll}

-- a phase is closed where it is below the least number that a signaller has signalled
abbrev pub is_below : ℕ → Option ℕ → Bool
is_below p None = true
is_below p (Some l) = nat_lt p l

-- a signaller stands where it stands
stands_itself : (r : Reg ℕ) → can_signal r.mode ≡ true → stands_at (signals_of r) r ≡ 1
stands_itself r k = rw (k, eq-eqb (signals_of r) (signals_of r) refl) refl

-- and a waiter
pub waits_itself : (r : Reg ℕ) → can_wait r.mode ≡ true → waits_at r.phase r ≡ 1
waits_itself r k = rw (k, eq-eqb r.phase r.phase refl) refl

-- a line that counts is that of a signaller that stands there
stands_there : (n : ℕ) (r : Reg ℕ) → 0 < stands_at n r → (can_signal r.mode ≡ true) × (signals_of r ≡ n)
stands_there n r some = split (can_signal r.mode && signals_of r == n) refl some
  where
    split : (b : Bool) → (can_signal r.mode && signals_of r == n) ≡ b → 0 < cond b 1 0
        → (can_signal r.mode ≡ true) × (signals_of r ≡ n)
    split true e k = let parts = and_parts (can_signal r.mode) (signals_of r == n) e in
        (parts.0, eqb-true (signals_of r) n parts.1)
    split false e k = absurd (omega arith)

-- or of a waiter
pub waits_there : (n : ℕ) (r : Reg ℕ) → 0 < waits_at n r → (can_wait r.mode ≡ true) × (r.phase ≡ n)
waits_there n r some = split (can_wait r.mode && r.phase == n) refl some
  where
    split : (b : Bool) → (can_wait r.mode && r.phase == n) ≡ b → 0 < cond b 1 0
        → (can_wait r.mode ≡ true) × (r.phase ≡ n)
    split true e k = let parts = and_parts (can_wait r.mode) (r.phase == n) e in
        (parts.0, eqb-true r.phase n parts.1)
    split false e k = absurd (omega arith)

-- with nobody below p + 1, each line has signalled p
all_past : (xs : List Entry) (p : ℕ) → NobodyUpTo p (signallers_at xs)
    → list_all (λ e. has_signalled p e.reg) xs ≡ true
all_past [] p none = refl
all_past (x ∷ xs) p none =
    let rest =
    all_past xs p
    (λ n near. omega (arith, none n near, sum_by-cons (λ (e : Entry). stands_at n e.reg) x xs)) in
    elim (cases_Bool (can_signal x.reg.mode)) [
      | inr e ↦
          and_from (has_signalled p x.reg) (list_all (λ e. has_signalled p e.reg) xs)
          (or_left (not (can_signal x.reg.mode)) (nat_lt p (signals_of x.reg)) (ap not e)) rest
      | inl e ↦ elim (cases_lt p (signals_of x.reg)) [
        | inl past ↦
            and_from (has_signalled p x.reg) (list_all (λ e. has_signalled p e.reg) xs)
            (or_right (not (can_signal x.reg.mode)) (nat_lt p (signals_of x.reg))
            (lt-ltb p (signals_of x.reg) past)) rest
        | inr behind ↦
            absurd (omega (
              arith,
              none (signals_of x.reg) behind,
              sum_by-cons (λ (e : Entry). stands_at (signals_of x.reg) e.reg) x xs,
              stands_itself x.reg e,
            ))
      ]
    ]

-- with somebody at n ≤ p, not each line has signalled p
one_behind : (xs : List Entry) (p n : ℕ) → n ≤ p → 0 < signallers_at xs n
    → list_all (λ e. has_signalled p e.reg) xs ≡ false
one_behind [] p n near some = absurd (omega (arith, some))
one_behind (x ∷ xs) p n near some =
    let split : signallers_at (x ∷ xs) n ≡ stands_at n x.reg + signallers_at xs n =
    sum_by-cons (λ (e : Entry). stands_at n e.reg) x xs in
    elim (cases_lt 0 (stands_at n x.reg)) [
      | inl here ↦
          let is = stands_there n x.reg here in
          let behind : nat_lt p (signals_of x.reg) ≡ false =
          le-ltb p (signals_of x.reg) (omega (arith, is.1, near)) in
          and_left (has_signalled p x.reg) (list_all (λ e. has_signalled p e.reg) xs) (rw (is.0, behind) refl)
      | inr there ↦
          and_right (has_signalled p x.reg) (list_all (λ e. has_signalled p e.reg) xs)
          (one_behind xs p n near (omega (arith, split, there, some)))
    ]

-- the least phase at which a signaller stands decides which phases are closed
pub closed_from : (lines : List Entry) (o : Option ℕ) → IsLeast o (signallers_at lines) → (p : ℕ)
    → is_below p o ≡ list_all (λ e. has_signalled p e.reg) lines
closed_from lines None least p = sym (all_past lines p (λ n near. least n))
closed_from lines (Some l) least p =
    elim (cases_lt p l) [
      | inl below ↦
          lt-ltb p l below ∙ sym (all_past lines p (λ n near. least.1 n (omega (arith, below, near))))
      | inr above ↦ le-ltb p l above ∙ sym (one_behind lines p l above least.0)
    ]

-- with no waiter at n or below, each waiter of the lines has passed n
pub all_passed : (xs : List Entry) (n : ℕ) → NobodyUpTo n (waiters_at xs)
    → list_all (λ e. has_passed n e.reg) xs ≡ true
all_passed [] n none = refl
all_passed (x ∷ xs) n none =
    let rest =
    all_passed xs n
    (λ k near. omega (arith, none k near, sum_by-cons (λ (e : Entry). waits_at k e.reg) x xs)) in
    let others = list_all (λ (e : Entry). has_passed n e.reg) xs in
    elim (cases_Bool (can_wait x.reg.mode)) [
      | inr e ↦
          and_from (has_passed n x.reg) others
          (or_left (not (can_wait x.reg.mode)) (nat_lt n x.reg.phase) (ap not e)) rest
      | inl e ↦ elim (cases_lt n x.reg.phase) [
        | inl past ↦
            and_from (has_passed n x.reg) others
            (or_right (not (can_wait x.reg.mode)) (nat_lt n x.reg.phase) (lt-ltb n x.reg.phase past)) rest
        | inr behind ↦
            absurd (omega (
              arith,
              none x.reg.phase behind,
              sum_by-cons (λ (e : Entry). waits_at x.reg.phase e.reg) x xs,
              waits_itself x.reg e,
            ))
      ]
    ]

-- with a waiter at l, some waiter of the lines has passed what is below l
pub one_passed : (xs : List Entry) (n l : ℕ) → n < l → 0 < waiters_at xs l
    → list_any (λ e. is_waiter_past n e.reg) xs ≡ true
one_passed [] n l near some = absurd (omega (arith, some))
one_passed (x ∷ xs) n l near some =
    let split : waiters_at (x ∷ xs) l ≡ waits_at l x.reg + waiters_at xs l =
    sum_by-cons (λ (e : Entry). waits_at l e.reg) x xs in
    let others = list_any (λ (e : Entry). is_waiter_past n e.reg) xs in
    elim (cases_lt 0 (waits_at l x.reg)) [
      | inl here ↦
          let is = waits_there l x.reg here in
          or_left (is_waiter_past n x.reg) others
          (and_from (can_wait x.reg.mode) (nat_lt n x.reg.phase) is.0
          (lt-ltb n x.reg.phase (omega (arith, is.1, near))))
      | inr there ↦
          or_right (is_waiter_past n x.reg) others
          (one_passed xs n l near (omega (arith, split, there, some)))
    ]

-- each line is counted once at most
abbrev pub AtMostOnce : (ℕ → Reg ℕ → ℕ) → Type 0
AtMostOnce at = (n : ℕ) (r : Reg ℕ) → at n r ≤ 1

one_or_none : (b : Bool) → cond b 1 0 ≤ 1
one_or_none true = omega arith
one_or_none false = omega arith

pub signals_once : AtMostOnce stands_at
signals_once n r = one_or_none (can_signal r.mode && signals_of r == n)

pub waits_once : AtMostOnce waits_at
waits_once n r = one_or_none (can_wait r.mode && r.phase == n)

-- counts by any such test
module _ (at : ℕ → Reg ℕ → ℕ) where
  -- how many of the lines stand at n
  abbrev counted : List Entry → ℕ → ℕ
  counted xs n = sum_by (λ e. at n e.reg) xs

  -- no count passes the number of lines
  counted_few : AtMostOnce at → (n : ℕ) (xs : List Entry) → counted xs n ≤ length xs
  counted_few once n [] = omega arith
  counted_few once n (x ∷ xs) =
      omega (arith, sum_by-cons (λ (e : Entry). at n e.reg) x xs, once n x.reg, counted_few once n xs)

  -- one more can stand at the rear
  pub rear_few : AtMostOnce at → (lines : List Entry) (rear : Rear) → IsRear (counted lines) rear
      → length lines ≤ 256 → rear.count + 1 < 2 ^ 32
  rear_few once lines rear is few = omega (arith, is.here, counted_few once rear.least lines, few)

  -- a new line is counted too
  pub counted_insert : (lines : List Entry) (i : ℕ) (x : Entry) (n : ℕ)
      → counted (insert lines i x) n ≡ counted lines n + at n x.reg
  counted_insert lines i x n = sum_by-insert (λ (e : Entry). at n e.reg) lines i x

  -- and the next of those that are gone through
  pub counted_more : (lines : List Entry) (i : ℕ) (x : Entry) → slice_get lines i ≡ Some x → (n : ℕ)
      → counted (take (i + 1) lines) n ≡ counted (take i lines) n + at n x.reg
  counted_more lines i x here n =
      sum_by_more (λ (e : Entry). at n e.reg) lines i x (slice_get_within lines i x here)
      ∙ ap (λ (e : Entry). counted (take i lines) n + at n e.reg) (get_or_from_slice_get lines i x x here)

  -- a line that was taken out is counted no more
  pub counted_remove : (lines : List Entry) (i : ℕ) (old : Entry) → slice_get lines i ≡ Some old → (n : ℕ)
      → counted (remove lines i) n + at n old.reg ≡ counted lines n
  counted_remove lines i old here n =
      let before : at n (get_or lines i old).reg ≡ at n old.reg =
      ap (λ (e : Entry). at n e.reg) (get_or_from_slice_get lines i old old here) in
      omega (
        arith,
        sum_by-remove (λ (e : Entry). at n e.reg) lines i old (slice_get_within lines i old here),
        before,
      )

  -- a line that was written anew is counted as it is now
  counted_set : (lines : List Entry) (i : ℕ) (x old : Entry) → slice_get lines i ≡ Some old → (n : ℕ)
      → counted (set lines i x) n + at n old.reg ≡ counted lines n + at n x.reg
  counted_set lines i x old here n =
      let before : at n (get_or lines i x).reg ≡ at n old.reg =
      ap (λ (e : Entry). at n e.reg) (get_or_from_slice_get lines i old x here) in
      omega (
        arith,
        sum_by-set (λ (e : Entry). at n e.reg) lines i x x (slice_get_within lines i old here),
        before,
      )

  -- a line is among the counted
  counted_line : (lines : List Entry) (i n : ℕ) (x : Entry) → slice_get lines i ≡ Some x
      → at n x.reg ≤ counted lines n
  counted_line lines i n x here =
      let among = get_or-le-sum_by (λ (e : Entry). at n e.reg) lines i x (slice_get_within lines i x here) in
      let same : at n (get_or lines i x).reg ≡ at n x.reg =
      ap (λ (e : Entry). at n e.reg) (get_or_from_slice_get lines i x x here) in
      omega (arith, among, same)

-- the rear stays where as many stand everywhere as before
pub rear_same : (before after : ℕ → ℕ) (rear : Rear) → ((n : ℕ) → after n ≡ before n) → IsRear before rear
    → IsRear after rear
rear_same before after rear same is = record {
  here = same rear.least ∙ is.here;
  behind = λ n near. same n ∙ is.behind n near;
  nobody = λ none n. same n ∙ is.nobody none n;
}

-- the registration counts at p alone
pub record IsAt (at : ℕ → Reg ℕ → ℕ) (p : ℕ) (r : Reg ℕ) : Type 0 where
  pub here : at p r ≡ 1
  pub elsewhere : (n : ℕ) → n ≢ p → at n r ≡ 0

-- nobody stands where its number differs
off_place : (b : Bool) (m n : ℕ) → n ≢ m → ◌≡◌ {A = ℕ} (cond (b && m == n) 1 0) 0
off_place true m n off = rw (ne_eqb m n (λ same. off (sym same))) refl
off_place false m n off = refl

pub signaller_at : (p : ℕ) (r : Reg ℕ) → can_signal r.mode ≡ true → signals_of r ≡ p → IsAt stands_at p r
signaller_at p r able is = record {
  here = rw (able, eq-eqb (signals_of r) p is) refl;
  elsewhere = λ n off. off_place (can_signal r.mode) (signals_of r) n (λ same. off (same ∙ is));
}

pub waiter_at : (p : ℕ) (r : Reg ℕ) → can_wait r.mode ≡ true → r.phase ≡ p → IsAt waits_at p r
waiter_at p r able is = record {
  here = rw (able, eq-eqb r.phase p is) refl;
  elsewhere = λ n off. off_place (can_wait r.mode) r.phase n (λ same. off (same ∙ is));
}

-- whoever is counted too has entered there
pub enters_there : (at : ℕ → Reg ℕ → ℕ) (p : ℕ) (r : Reg ℕ) (before after : ℕ → ℕ) → IsAt at p r
    → ((n : ℕ) → after n ≡ before n + at n r) → HasEntered p before after
enters_there at p r before after is more = record {
  more = omega (arith, more p, is.here);
  others = λ n off. omega (arith, more n, is.elsewhere n off);
}

-- and whoever is counted no more has left there
pub leaves_there : (at : ℕ → Reg ℕ → ℕ) (p : ℕ) (r : Reg ℕ) (before after : ℕ → ℕ) → IsAt at p r
    → ((n : ℕ) → after n + at n r ≡ before n) → HasLeft p before after
leaves_there at p r before after is fewer = record {
  fewer = omega (arith, fewer p, is.here);
  behind = λ n near. omega (arith, fewer n, is.elsewhere n (λ same. omega (arith, same, near)));
}

-- also where it is counted further on
pub goes_on : (at : ℕ → Reg ℕ → ℕ) (lines : List Entry) (i p q : ℕ) (x old : Entry)
    → slice_get lines i ≡ Some old → IsAt at p old.reg → IsAt at q x.reg → p < q
    → HasLeft p (counted at lines) (counted at (set lines i x))
goes_on at lines i p q x old here from to later = record {
  fewer = omega (
    arith,
    counted_set at lines i x old here p,
    from.here,
    to.elsewhere p (λ same. omega (arith, same, later)),
  );
  behind = λ n near.
      omega (
        arith,
        counted_set at lines i x old here n,
        from.elsewhere n (λ same. omega (arith, same, near)),
        to.elsewhere n (λ same. omega (arith, same, near, later)),
      );
}

-- a signal takes its task away from its phase
pub signal_leaves : (lines : List Entry) (i p : ℕ) (e : Entry) (b : Bool) → slice_get lines i ≡ Some e
    → IsToSignal p e.reg
    → HasLeft p (signallers_at lines) (signallers_at (set lines i (line_signalled e b)))
signal_leaves lines i p e b here is =
    goes_on stands_at lines i p (p + 1) (line_signalled e b) e here
    (signaller_at p e.reg is.signaller (rw is.behind is.phase_is))
    (signaller_at (p + 1) (line_signalled e b).reg is.signaller (omega (arith, is.phase_is))) (omega arith)

-- and no waiter
pub signal_keeps : (lines : List Entry) (i : ℕ) (e : Entry) (b : Bool) → slice_get lines i ≡ Some e
    → (n : ℕ) → waiters_at (set lines i (line_signalled e b)) n ≡ waiters_at lines n
signal_keeps lines i e b here n = omega (arith, counted_set waits_at lines i (line_signalled e b) e here n)

-- a pass takes a waiter away from its phase
pub pass_leaves : (lines : List Entry) (i : ℕ) (e : Entry) → slice_get lines i ≡ Some e
    → can_wait e.reg.mode ≡ true
    → HasLeft e.reg.phase (waiters_at lines) (waiters_at (set lines i (line_passed e)))
pass_leaves lines i e here able =
    goes_on waits_at lines i e.reg.phase (e.reg.phase + 1) (line_passed e) e here
    (waiter_at e.reg.phase e.reg able refl) (waiter_at (e.reg.phase + 1) (line_passed e).reg able refl)
    (omega arith)

-- to the next one
pub pass_enters : (lines : List Entry) (i : ℕ) (e : Entry) → slice_get lines i ≡ Some e
    → can_wait e.reg.mode ≡ true → 0 < waiters_at (set lines i (line_passed e)) (e.reg.phase + 1)
pass_enters lines i e here able =
    omega (
      arith,
      counted_set waits_at lines i (line_passed e) e here (e.reg.phase + 1),
      counted_line waits_at lines i (e.reg.phase + 1) e here,
      waits_itself (line_passed e).reg able,
    )

-- and nobody else
pub pass_keeps_waiters : (lines : List Entry) (i : ℕ) (e : Entry) → slice_get lines i ≡ Some e
    → can_wait e.reg.mode ≡ false → (n : ℕ)
    → waiters_at (set lines i (line_passed e)) n ≡ waiters_at lines n
pass_keeps_waiters lines i e here none n =
    let same : waits_at n e.reg ≡ waits_at n (line_passed e).reg = rw none refl in
    omega (arith, same, counted_set waits_at lines i (line_passed e) e here n)

-- no signaller's place changes by a pass
pub pass_keeps : (lines : List Entry) (i : ℕ) (e : Entry) → slice_get lines i ≡ Some e → IsToPass e.reg
    → (n : ℕ) → signallers_at (set lines i (line_passed e)) n ≡ signallers_at lines n
pass_keeps lines i e here is n =
    let same : stands_at n e.reg ≡ stands_at n (line_passed e).reg =
    elim (cases_Bool (can_signal e.reg.mode)) [
      | inl able ↦ rw (able, is.ahead able) refl
      | inr none ↦ rw none refl
    ] in
    omega (arith, same, counted_set stands_at lines i (line_passed e) e here n)

-- what stands at a place of the list
pub at_place : (lines : List Entry) (i : ℕ) → i < length lines → (e : Entry) × (slice_get lines i ≡ Some e)
at_place [] i inside = absurd (omega (arith, inside))
at_place (x ∷ xs) zero inside = (x, refl)
at_place (x ∷ xs) (suc i) inside = at_place xs i (omega (arith, inside))

-- the roll with a new line
pub roll_insert : (lines : List Entry) (signallers waiters ss ws : Rear) (i : ℕ) (x : Entry)
    → IsRoll lines signallers waiters → length lines < 256 → i ≤ length lines
    → ((before after : ℕ → ℕ) → IsRear before signallers
    → ((n : ℕ) → after n ≡ before n + stands_at n x.reg) → IsRear after ss)
    → ((before after : ℕ → ℕ) → IsRear before waiters
    → ((n : ℕ) → after n ≡ before n + waits_at n x.reg) → IsRear after ws)
    → IsRoll (insert lines i x) ss ws
roll_insert lines signallers waiters ss ws i x roll room inside signalled passed = record {
  few = omega (arith, length-insert lines i x inside, room);
  signalled = signalled (signallers_at lines) (signallers_at (insert lines i x)) roll.signalled
      (counted_insert stands_at lines i x);
  passed = passed (waiters_at lines) (waiters_at (insert lines i x)) roll.passed
      (counted_insert waits_at lines i x);
}
