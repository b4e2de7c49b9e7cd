-- Where no event of merged parts is at fault, they are a trace of these parts, and their tickets strictly rise.
use Rattle.std.proofs.Common.{◌≡◌, ◌⊎◌, inl, inr, ℕ, zero, suc, ◌+◌, ◌≤◌, ◌<◌, ◌==◌, Bool, true, false, nat_lt, List, [], ◌∷◌, map, flat_map, Option, Some, None, Result, Ok, Err, IfOk, if◌then◌else◌, refl, sym, ap, subst, ◌∙◌, arith}
use Rattle.std.proofs.Math.Numerals.{lt_of_le_of_ne}
use Rattle.std.proofs.lemmas.Bool.{and_parts, or_parts, eq-eqb, eqb-false, ne_eqb, lt-ltb, ltb-true, ltb-false}
use Rattle.std.proofs.lemmas.Bool.Decides.{eqb_tells}
use Rattle.std.proofs.lemmas.List.{map-append}
use Rattle.std.proofs.lemmas.List.Elements.{All-cons, All-contains, Contains-append_left, Contains-append_right}
use Rattle.std.proofs.lemmas.List.Sorted.{IsNonDecreasingBy-drop, IsPermutation-map, Contains-permutation, sum_by-IsPermutation}
use Rattle.std.proofs.lemmas.List.Sums.{sum_by-append, sum_by-cons}
use Rattle.std.specs.List.{All, Contains, sum_by}
use Rattle.std.specs.List.Sorted.{IsPermutation, IsNonDecreasingBy}
use Rattle.phase_modes.specs.declared.limits.Limits.{Limits}
use Rattle.phase_modes.specs.declared.refusal.Refusal.{Refusal}
use Rattle.trace_model.specs.Run.{Entry, Run}
use Rattle.trace_model.specs.Parts.{rises, StandIn, IsTraceOf}
use Rattle.trace_replay.specs.declared.merging.Mark.{Mark}
use Rattle.trace_replay.specs.Merging.{later_of, marked_after, all_marked, IsMerged, is_fault, fault_from, merge_fault, entry_of, Traces}

-- ---- the events of the marks are those of the parts

entries_back : (most : ℕ) (es : List Entry) → map entry_of (marked_after most es) ≡ es
entries_back most [] = refl
entries_back most (e ∷ es) = ap (λ l. e ∷ l) (entries_back (later_of most e.0) es)

all_back : (parts : List (List Entry)) → map entry_of (all_marked parts) ≡ flat_map (λ part. part) parts
all_back [] = refl
all_back (p ∷ ps) = map-append entry_of (marked_after 0 p) (all_marked ps) ∙ rw (entries_back 0 p, all_back ps) refl

as_often : (parts : List (List Entry)) (ms : List Mark) → IsPermutation (all_marked parts) ms → IsPermutation (flat_map (λ part. part) parts) (map entry_of ms)
as_often parts ms same = subst (λ l. IsPermutation l (map entry_of ms)) (all_back parts) (IsPermutation-map entry_of (all_marked parts) ms same)

-- ---- no fault

fine_by : (b : Bool) (place : ℕ) (rest : Option ℕ) → (if b then Some place else rest) ≡ None → (b ≡ false) × (rest ≡ None)
fine_by true place rest h = absurd cc
fine_by false place rest h = (refl, h)

fine : (last : Option ℕ) (place : ℕ) (m : Mark) (ms : List Mark) → fault_from last place (m ∷ ms) ≡ None → (is_fault last m ≡ false) × (fault_from (Some m.ticket) (place + 1) ms ≡ None)
fine last place m ms h = fine_by (is_fault last m) place (fault_from (Some m.ticket) (place + 1) ms) h

on_time : (last : Option ℕ) (m : Mark) → is_fault last m ≡ false → m.late ≡ false
on_time None m h = h
on_time (Some t) m h = (or_parts (t == m.ticket) m.late h).1

all_on_time : (last : Option ℕ) (place : ℕ) (ms : List Mark) → fault_from last place ms ≡ None → All (λ m. m.late ≡ false) ms
all_on_time last place [] h = λ k d less. absurd (omega (arith, less))
all_on_time last place (m ∷ ms) h =
    let f = fine last place m ms h in
    All-cons (λ n. n.late ≡ false) m ms (on_time last m f.0) (all_on_time (Some m.ticket) (place + 1) ms f.1)

-- ---- the tickets strictly rise

strictly : (ms : List Mark) (m : Mark) (place : ℕ) → fault_from (Some m.ticket) place ms ≡ None → IsNonDecreasingBy (λ n. n.ticket) (m ∷ ms) → rises (map entry_of (m ∷ ms)) ≡ true
strictly [] m place h up = refl
strictly (n ∷ ms) m place h up =
    let f = fine (Some m.ticket) place n ms h in
    let apart = (or_parts (m.ticket == n.ticket) n.late f.0).0 in
    let le : m.ticket ≤ n.ticket = up 0 1 m (omega arith) (omega arith) in
    let less : nat_lt m.ticket n.ticket ≡ true = lt-ltb m.ticket n.ticket (lt_of_le_of_ne le (eqb-false m.ticket n.ticket apart)) in
    rw less (strictly ms n (place + 1) f.1 (IsNonDecreasingBy-drop (λ (x : Mark). x.ticket) 1 (m ∷ n ∷ ms) up))

rising : (ms : List Mark) → merge_fault ms ≡ None → IsNonDecreasingBy (λ n. n.ticket) ms → rises (map entry_of ms) ≡ true
rising [] h up = refl
rising (m ∷ ms) h up = strictly ms m 2 (fine None 1 m ms h).1 up

pub rises_tail : (e : Entry) (es : List Entry) → rises (e ∷ es) ≡ true → rises es ≡ true
rises_tail e [] h = refl
rises_tail e (x ∷ es) h = (and_parts (nat_lt e.0 x.0) (rises (x ∷ es)) h).1

-- ---- a ticket stands once where tickets strictly rise

abbrev pub has : ℕ → Entry → ℕ
has k e = if e.0 == k then 1 else 0

none_above : (e : Entry) (es : List Entry) → rises (e ∷ es) ≡ true → (k : ℕ) → k ≤ e.0 → sum_by (has k) es ≡ 0
none_above e [] h k le = refl
none_above e (x ∷ es) h k le =
    let p = and_parts (nat_lt e.0 x.0) (rises (x ∷ es)) h in
    let less = ltb-true e.0 x.0 p.0 in
    let other : (x.0 == k) ≡ false = ne_eqb x.0 k (λ same. omega (arith, same, less, le)) in
    let no : has k x ≡ 0 = rw other refl in
    omega (arith, sum_by-cons (has k) x es, no, none_above x es p.1 k (omega (arith, less, le)))

pub once : (es : List Entry) → rises es ≡ true → (k : ℕ) → sum_by (has k) es ≤ 1
once [] h k = omega arith
once (e ∷ es) h k = elim (eqb_tells e.0 k) [
  | inl same ↦
      let one : has k e ≡ 1 = rw (same.0) refl in
      omega (arith, sum_by-cons (has k) e es, one, none_above e es h k (omega (arith, same.1)))
  | inr other ↦
      let no : has k e ≡ 0 = rw (other.0) refl in
      omega (arith, sum_by-cons (has k) e es, no, once es (rises_tail e es h) k)
]

-- ---- so does a part whose events are in time

head_of : {X : Type 0} (x : X) (xs : List X) → Contains (x ∷ xs) x
head_of x xs = (0, omega arith, refl)

tail_of : {X : Type 0} (y : X) (xs : List X) (x : X) → Contains xs x → Contains (y ∷ xs) x
tail_of y xs x c = (suc c.0, omega (arith, c.1), c.2)

-- two events of one ticket are no single one
apart : (e x : Entry) (es : List Entry) → ((k : ℕ) → sum_by (has k) (e ∷ x ∷ es) ≤ 1) → e.0 ≡ x.0 → ⊥
apart e x es single alike =
    let one : has e.0 e ≡ 1 = rw (eq-eqb e.0 e.0 refl) refl in
    let two : has e.0 x ≡ 1 = rw (eq-eqb x.0 e.0 (sym alike)) refl in
    omega (arith, sum_by-cons (has e.0) e (x ∷ es), sum_by-cons (has e.0) x es, one, two, single e.0)

part_rises : (es : List Entry) (most : ℕ) → ((m : Mark) → Contains (marked_after most es) m → m.late ≡ false) → ((k : ℕ) → sum_by (has k) es ≤ 1) → rises es ≡ true
part_rises [] most in_time single = refl
part_rises (e ∷ []) most in_time single = refl
part_rises (e ∷ x ∷ es) most in_time single =
    let first : nat_lt e.0 most ≡ false = in_time (record { ticket = e.0; event = e.1; late = nat_lt e.0 most }) (head_of _ (marked_after (later_of most e.0) (x ∷ es))) in
    let same : later_of most e.0 ≡ e.0 = rw first refl in
    let after : (m : Mark) → Contains (marked_after e.0 (x ∷ es)) m → m.late ≡ false =
    λ m c. in_time m (tail_of _ (marked_after (later_of most e.0) (x ∷ es)) m (subst (λ n. Contains (marked_after n (x ∷ es)) m) (sym same) c)) in
    let second : nat_lt x.0 e.0 ≡ false = after (record { ticket = x.0; event = x.1; late = nat_lt x.0 e.0 }) (head_of _ (marked_after (later_of e.0 x.0) es)) in
    let le : e.0 ≤ x.0 = ltb-false x.0 e.0 second in
    let less : nat_lt e.0 x.0 ≡ true = lt-ltb e.0 x.0 (lt_of_le_of_ne le (apart e x es single)) in
    rw less (part_rises (x ∷ es) e.0 after (λ k. omega (arith, sum_by-cons (has k) e (x ∷ es), single k)))

-- ---- and so it stands in the trace in its order

abbrev pub Among : Entry → List Entry → Type 0
Among x [] = ⊥
Among x (e ∷ es) = (x ≡ e) ⊎ Among x es

pub among : (es : List Entry) (x : Entry) → Contains es x → Among x es
among [] x c = absurd (omega (arith, c.1))
among (e ∷ es) x (zero, less, is) = inl (sym is)
among (e ∷ es) x (suc k, less, is) = inr (among es x (k, omega (arith, less), is))

contained : (es : List Entry) (x : Entry) → Among x es → Contains es x
contained [] x c = absurd c
contained (e ∷ es) x (inl is) = subst (λ y. Contains (e ∷ es) y) (sym is) (head_of e es)
contained (e ∷ es) x (inr later) = tail_of e es x (contained es x later)

pub greater : (x : Entry) (xs : List Entry) → rises (x ∷ xs) ≡ true → (y : Entry) → Among y xs → x.0 < y.0
greater x [] h y c = absurd c
greater x (z ∷ xs) h y (inl is) = let p = and_parts (nat_lt x.0 z.0) (rises (z ∷ xs)) h in omega (arith, ltb-true x.0 z.0 p.0, ap (λ (e : Entry). e.0) is)
greater x (z ∷ xs) h y (inr later) = let p = and_parts (nat_lt x.0 z.0) (rises (z ∷ xs)) h in omega (arith, ltb-true x.0 z.0 p.0, greater z xs p.1 y later)

-- an element of a list that isn't its first
not_first : (y e : Entry) (es : List Entry) → e.0 < y.0 → Among y (e ∷ es) → Among y es
not_first y e es less (inl is) = absurd (omega (arith, less, ap (λ (x : Entry). x.0) is))
not_first y e es less (inr later) = later

-- what is above the first of a list is above each before it
above_first : (e : Entry) (es : List Entry) → rises (e ∷ es) ≡ true → (x : Entry) (xs : List Entry) → rises (x ∷ xs) ≡ true → Among x es → (y : Entry) → Among y (x ∷ xs) → e.0 < y.0
above_first e es over x xs up later y (inl is) = omega (arith, greater e es over x later, ap (λ (z : Entry). z.0) is)
above_first e es over x xs up later y (inr c) = omega (arith, greater e es over x later, greater x xs up y c)

stand_in : (es xs : List Entry) → rises xs ≡ true → rises es ≡ true → ((x : Entry) → Among x xs → Among x es) → StandIn xs es
stand_in es [] up over inside = tt
stand_in [] (x ∷ xs) up over inside = inside x (inl refl)
stand_in (e ∷ es) (x ∷ xs) up over inside = elim (inside x (inl refl)) [
  | inl is ↦ inl (
    is,
    stand_in es xs (rises_tail x xs up) (rises_tail e es over)
        (λ y c. not_first y e es (omega (arith, greater x xs up y c, ap (λ (z : Entry). z.0) is)) (inside y (inr c))),
  )
  | inr later ↦ inr (stand_in es (x ∷ xs) up (rises_tail e es over)
      (λ y c. not_first y e es (above_first e es over x xs up later y c) (inside y c)))
]

-- ---- the whole

in_order : (es : List Entry) → rises es ≡ true → (parts : List (List Entry)) → ((x : Entry) → Contains (flat_map (λ part. part) parts) x → Contains es x)
    → ((k : ℕ) → sum_by (has k) (flat_map (λ part. part) parts) ≤ 1) → ((m : Mark) → Contains (all_marked parts) m → m.late ≡ false) → All (λ part. StandIn part es) parts
in_order es up [] inside single in_time = λ k d less. absurd (omega (arith, less))
in_order es up (p ∷ ps) inside single in_time =
    let rest = flat_map (λ (part : List Entry). part) ps in
    let p_rises = part_rises p 0 (λ m c. in_time m (Contains-append_left (marked_after 0 p) (all_marked ps) m c)) (λ k. omega (arith, sum_by-append (has k) p rest, single k)) in
    All-cons (λ part. StandIn part es) p ps
    (stand_in es p p_rises up (λ x c. among es x (inside x (Contains-append_left p rest x (contained p x c)))))
    (in_order es up ps (λ x c. inside x (Contains-append_right p rest x c)) (λ k. omega (arith, sum_by-append (has k) p rest, single k))
    (λ m c. in_time m (Contains-append_right (marked_after 0 p) (all_marked ps) m c)))

pub merged_rises : (parts : List (List Entry)) (ms : List Mark) → IsMerged parts ms → merge_fault ms ≡ None → rises (map entry_of ms) ≡ true
merged_rises parts ms is none = rising ms none is.rising

pub of_parts : (parts : List (List Entry)) (ms : List Mark) → IsMerged parts ms → merge_fault ms ≡ None → IsTraceOf parts (map entry_of ms)
of_parts parts ms is none =
    let es = map entry_of ms in
    let up = rising ms none is.rising in
    let same = as_often parts ms is.as_often in
    let fine_marks = all_on_time None 1 ms none in
    record {
      as_often = same;
      in_order = in_order es up parts
          (λ x c. Contains-permutation (flat_map (λ part. part) parts) es x same c)
          (λ k. omega (arith, sum_by-IsPermutation (has k) (flat_map (λ part. part) parts) es same, once es up k))
          (λ m c. All-contains (λ n. n.late ≡ false) ms m fine_marks (Contains-permutation (all_marked parts) ms m is.as_often c));
    }

-- what merging says of the trace that it gives
pub said_parts : (l : Limits) (parts : List (List Entry)) (ms : List Mark) (r : Result Run Refusal) → IsMerged parts ms → Traces l ms r → IfOk r (λ t. (t.limits ≡ l) × IsTraceOf parts t.events)
said_parts l parts ms (Ok t) is traced = (ap (λ (x : Run). x.limits) traced.1, subst (λ es. IsTraceOf parts es) (sym (ap (λ (x : Run). x.events) traced.1)) (of_parts parts ms is traced.0))
said_parts l parts ms (Err e) is traced = tt

pub said_rises : (l : Limits) (parts : List (List Entry)) (ms : List Mark) (r : Result Run Refusal) → IsMerged parts ms → Traces l ms r → IfOk r (λ t. rises t.events ≡ true)
said_rises l parts ms (Ok t) is traced = ap (λ (x : Run). rises x.events) traced.1 ∙ merged_rises parts ms is traced.0
said_rises l parts ms (Err e) is traced = tt
