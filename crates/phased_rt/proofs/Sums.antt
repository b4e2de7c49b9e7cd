-- Sums over lists.
use Rattle.std.proofs.Common.{◌≡◌, ℕ, zero, suc, ◌+◌, ◌<◌, ◌≤◌, Bool, true, false, ◌==◌, List, [], ◌∷◌, length, reverse, count_by, refl, inl, inr, arith}
use Rattle.std.specs.Prelude.{if◌then◌else◌}
use Rattle.std.specs.List.{sum_by, filter, flat_map, range_with_len, zip, All}
use Rattle.std.proofs.lemmas.List.Sums.{sum_by-cons, sum_by-append}
use Rattle.std.proofs.lemmas.Bool.{cases_Bool, eqb-true, eq-eqb}
use Rattle.std.proofs.lemmas.List.Elements.{All-head, All-tail}
use Rattle.std.proofs.lemmas.List.Sorted.{sum_by-IsPermutation, IsPermutation-reverse}

-- element by element two at once
pub sum_both : {X : Type 0} (f g : X → ℕ) (xs : List X) → sum_by (λ x. f x + g x) xs ≡ sum_by f xs + sum_by g xs
sum_both f g [] = omega arith
sum_both f g (x ∷ xs) = omega (arith, sum_by-cons (λ y. f y + g y) x xs, sum_by-cons f x xs, sum_by-cons g x xs, sum_both f g xs)

-- the same of each is the same of all
pub sum_same : {X : Type 0} (f g : X → ℕ) (xs : List X) → ((x : X) → f x ≡ g x) → sum_by f xs ≡ sum_by g xs
sum_same f g [] same = refl
sum_same f g (x ∷ xs) same = omega (arith, sum_by-cons f x xs, sum_by-cons g x xs, sum_same f g xs same, same x)

pub sum_none : {X : Type 0} (f : X → ℕ) (xs : List X) → All (λ x. f x ≡ 0) xs → sum_by f xs ≡ 0
sum_none f [] none = refl
sum_none f (x ∷ xs) none = omega (arith, sum_by-cons f x xs, sum_none f xs (All-tail (λ y. f y ≡ 0) x xs none), All-head (λ y. f y ≡ 0) x xs none)

pub sum_reverse : {X : Type 0} (f : X → ℕ) (xs : List X) → sum_by f (reverse xs) ≡ sum_by f xs
sum_reverse f xs = sum_by-IsPermutation f xs (reverse xs) (IsPermutation-reverse xs)

-- of pairs, by what stands second
pub sum_zip : {A B : Type 0} (f : B → ℕ) (ks : List A) (vs : List B) → length ks ≡ length vs → sum_by (λ (p : A × B). f p.1) (zip ks vs) ≡ sum_by f vs
sum_zip f [] [] same = refl
sum_zip f (k ∷ ks) (v ∷ vs) same = omega (arith, sum_by-cons (λ (p : _ × _). f p.1) (k, v) (zip ks vs), sum_by-cons f v vs, sum_zip f ks vs (omega arith))
sum_zip f [] (v ∷ vs) same = absurd (omega arith)
sum_zip f (k ∷ ks) [] same = absurd (omega arith)

pub sum_flat : {X : Type 0} (f : X → ℕ) (ps : List (List X)) → sum_by f (flat_map (λ p. p) ps) ≡ sum_by (λ p. sum_by f p) ps
sum_flat f [] = refl
sum_flat f (p ∷ ps) = omega (arith, sum_by-append f p (flat_map (λ q. q) ps), sum_by-cons (λ q. sum_by f q) p ps, sum_flat f ps)

-- those at which the test gives false add nothing
pub sum_filter : {X : Type 0} (f : X → ℕ) (test : X → Bool) (xs : List X) → ((x : X) → test x ≡ false → f x ≡ 0) → sum_by f (filter test xs) ≡ sum_by f xs
sum_filter f test [] none = refl
sum_filter f test (x ∷ xs) none =
    let rest = sum_filter f test xs none in
    elim (cases_Bool (test x)) [
      | inl holds ↦ rw holds (omega (arith, sum_by-cons f x (filter test xs), sum_by-cons f x xs, rest))
      | inr fails ↦ rw fails (omega (arith, sum_by-cons f x xs, rest, none x fails))
    ]

pub counted_sum : {X : Type 0} (test : X → Bool) (xs : List X) → count_by test xs ≡ sum_by (λ x. if test x then 1 else 0) xs
counted_sum test xs = refl

here : (x m k : ℕ) → (m == k) ≡ true → (if m == k then x else 0) ≡ x
here x m k is = rw is refl

elsewhere : (x m k : ℕ) → (m == k) ≡ false → (if m == k then x else 0) ≡ 0
elsewhere x m k isnt = rw isnt refl

later : (m a : ℕ) → (m == a) ≡ false → a ≤ m → a + 1 ≤ m
later m a isnt from = grind (arith, eq-eqb m a)

other : (x m k : ℕ) → m < k → (if m == k then x else 0) ≡ 0
other x m k before =
    elim (cases_Bool (m == k)) [
      | inl is ↦ absurd (omega (arith, eqb-true m k is))
      | inr isnt ↦ elsewhere x m k isnt
    ]

-- the numbers from a on have none below a
pub sum_before : (x m a n : ℕ) → m < a → sum_by (λ k. if m == k then x else 0) (range_with_len a n) ≡ 0
sum_before x m a zero before = refl
sum_before x m a (suc n) before =
    let at : ℕ → ℕ = λ k. if m == k then x else 0 in
    omega (arith, sum_by-cons at a (range_with_len (a + 1) n), sum_before x m (a + 1) n (omega arith), other x m a (omega arith))

-- of the numbers from a on one is m
pub sum_picked : (x m a n : ℕ) → a ≤ m → m < a + n → sum_by (λ k. if m == k then x else 0) (range_with_len a n) ≡ x
sum_picked x m a zero from below = absurd (omega arith)
sum_picked x m a (suc n) from below =
    let at : ℕ → ℕ = λ k. if m == k then x else 0 in
    let first = sum_by-cons at a (range_with_len (a + 1) n) in
    elim (cases_Bool (m == a)) [
      | inl is ↦ omega (arith, first, here x m a is, sum_before x m (a + 1) n (omega (arith, eqb-true m a is)))
      | inr isnt ↦ omega (arith, first, elsewhere x m a isnt, sum_picked x m (a + 1) n (later m a isnt from) (omega arith))
    ]
