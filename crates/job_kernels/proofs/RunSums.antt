-- Sums over numbers and lists.
use Rattle.std.proofs.Common.{◌≡◌, ℕ, zero, suc, ◌+◌, ◌*◌, ◌<◌, ◌≤◌, ◌∙◌, Bool, true, false, ◌==◌, cond, List, [], ◌∷◌, map, flat_map, refl, sym, ap, inl, inr, arith}
use Rattle.std.specs.List.{sum_by, filter, range_with_len}
use Rattle.std.proofs.lemmas.List.Sums.{sum_by-cons, sum_by-append}
use Rattle.std.proofs.lemmas.Bool.{cases_Bool, eqb-true, eq-eqb}
use Rattle.job_kernels.proofs.Numbers.{from_plus_zero, zero_plus}

-- the sum of the first so many
abbrev pub up_to : (ℕ → ℕ) → ℕ → ℕ
up_to f zero = 0
up_to f (suc n) = f n + up_to f n

-- ---- of lists

pub sum_both : {X : Type 0} (f g : X → ℕ) (xs : List X) → sum_by (λ x. f x + g x) xs ≡ sum_by f xs + sum_by g xs
sum_both f g [] = omega arith
sum_both f g (x ∷ xs) =
    omega (arith, sum_by-cons (λ y. f y + g y) x xs, sum_by-cons f x xs, sum_by-cons g x xs, sum_both f g xs)

pub sum_same : {X : Type 0} (f g : X → ℕ) (xs : List X) → ((x : X) → f x ≡ g x) → sum_by f xs ≡ sum_by g xs
sum_same f g [] same = refl
sum_same f g (x ∷ xs) same = omega (arith, sum_by-cons f x xs, sum_by-cons g x xs, sum_same f g xs same, same x)

pub sum_none : {X : Type 0} (f : X → ℕ) (xs : List X) → ((x : X) → f x ≡ 0) → sum_by f xs ≡ 0
sum_none f [] none = refl
sum_none f (x ∷ xs) none = omega (arith, sum_by-cons f x xs, sum_none f xs none, none x)

pub sum_mapped : {X Y : Type 0} (f : Y → ℕ) (g : X → Y) (xs : List X) → sum_by f (map g xs) ≡ sum_by (λ x. f (g x)) xs
sum_mapped f g [] = refl
sum_mapped f g (x ∷ xs) =
    omega (arith, sum_by-cons f (g x) (map g xs), sum_by-cons (λ y. f (g y)) x xs, sum_mapped f g xs)

pub sum_flat : {X Y : Type 0} (f : Y → ℕ) (g : X → List Y) (xs : List X)
    → sum_by f (flat_map g xs) ≡ sum_by (λ x. sum_by f (g x)) xs
sum_flat f g [] = refl
sum_flat f g (x ∷ xs) =
    omega (arith, sum_by-append f (g x) (flat_map g xs), sum_by-cons (λ y. sum_by f (g y)) x xs, sum_flat f g xs)

-- those at which the test gives false add nothing
pub sum_filter : {X : Type 0} (f : X → ℕ) (test : X → Bool) (xs : List X) → ((x : X) → test x ≡ false → f x ≡ 0)
    → sum_by f (filter test xs) ≡ sum_by f xs
sum_filter f test [] none = refl
sum_filter f test (x ∷ xs) none =
    let rest = sum_filter f test xs none in
    elim (cases_Bool (test x)) [
      | inl holds ↦ rw holds (omega (arith, sum_by-cons f x (filter test xs), sum_by-cons f x xs, rest))
      | inr fails ↦ rw fails (omega (arith, sum_by-cons f x xs, rest, none x fails))
    ]

-- ---- of numbers

-- of the numbers from a on one is m
here : (x m k : ℕ) → (m == k) ≡ true → cond (m == k) x 0 ≡ x
here x m k is = rw is refl

elsewhere : (x m k : ℕ) → (m == k) ≡ false → cond (m == k) x 0 ≡ 0
elsewhere x m k isnt = rw isnt refl

later : (m a : ℕ) → (m == a) ≡ false → a ≤ m → a + 1 ≤ m
later m a isnt from = grind (arith, eq-eqb m a)

other : (x m k : ℕ) → m < k → cond (m == k) x 0 ≡ 0
other x m k before =
    elim (cases_Bool (m == k)) [
      | inl is ↦ absurd (omega (arith, eqb-true m k is))
      | inr isnt ↦ elsewhere x m k isnt
    ]

sum_before : (x m a n : ℕ) → m < a → sum_by (λ k. cond (m == k) x 0) (range_with_len a n) ≡ 0
sum_before x m a zero before = refl
sum_before x m a (suc n) before =
    omega (
      arith,
      sum_by-cons (λ k. cond (m == k) x 0) a (range_with_len (a + 1) n),
      sum_before x m (a + 1) n (omega arith),
      other x m a (omega arith),
    )

pub sum_picked : (x m a n : ℕ) → a ≤ m → m < a + n → sum_by (λ k. cond (m == k) x 0) (range_with_len a n) ≡ x
sum_picked x m a zero from below = absurd (omega arith)
sum_picked x m a (suc n) from below =
    let first = sum_by-cons (λ k. cond (m == k) x 0) a (range_with_len (a + 1) n) in
    elim (cases_Bool (m == a)) [
      | inl is ↦ omega (arith, first, here x m a is, sum_before x m (a + 1) n (omega (arith, eqb-true m a is)))
      | inr isnt ↦ omega (arith, first, elsewhere x m a isnt, sum_picked x m (a + 1) n (later m a isnt from) (omega arith))
    ]

-- where those from n on add nothing
nothing_after : (f : ℕ → ℕ) (n a m : ℕ) → ((j : ℕ) → n ≤ j → f j ≡ 0) → n ≤ a → sum_by f (range_with_len a m) ≡ 0
nothing_after f n a zero none from = refl
nothing_after f n a (suc m) none from =
    omega (arith, sum_by-cons f a (range_with_len (a + 1) m), none a from, nothing_after f n (a + 1) m none (omega arith))

-- the first n of them are all, and each is g's
pub sum_below : (f g : ℕ → ℕ) (n a r m : ℕ) → a + r ≡ n → r ≤ m → ((j : ℕ) → j < n → f j ≡ g j)
    → ((j : ℕ) → n ≤ j → f j ≡ 0) → sum_by f (range_with_len a m) ≡ sum_by g (range_with_len a r)
sum_below f g n a zero m e le same none = nothing_after f n a m none (omega arith)
sum_below f g n a (suc r) zero e le same none = absurd (omega arith)
sum_below f g n a (suc r) (suc m) e le same none =
    omega (
      arith,
      sum_by-cons f a (range_with_len (a + 1) m),
      sum_by-cons g a (range_with_len (a + 1) r),
      same a (omega arith),
      sum_below f g n (a + 1) r m (omega arith) (omega arith) same none,
    )

pub sum_const : (x a n : ℕ) → sum_by (λ j. x) (range_with_len a n) ≡ n * x
sum_const x a zero = omega arith
sum_const x a (suc n) = omega (arith, sum_by-cons (λ j. x) a (range_with_len (a + 1) n), sum_const x (a + 1) n)

-- row by row, or column by column
pub sum_swapped : {X Y : Type 0} (f : X → Y → ℕ) (xs : List X) (ys : List Y)
    → sum_by (λ x. sum_by (λ y. f x y) ys) xs ≡ sum_by (λ y. sum_by (λ x. f x y) xs) ys
sum_swapped f [] ys = sym (sum_none (λ y. sum_by (λ x. f x y) []) ys (λ y. refl))
sum_swapped f (x ∷ xs) ys =
    sum_by-cons (λ v. sum_by (λ y. f v y) ys) x xs
    ∙ (ap (λ n. sum_by (λ y. f x y) ys + n) (sum_swapped f xs ys)
    ∙ (sym (sum_both (λ y. f x y) (λ y. sum_by (λ v. f v y) xs) ys)
    ∙ sum_same (λ y. f x y + sum_by (λ v. f v y) xs) (λ y. sum_by (λ v. f v y) (x ∷ xs)) ys
    (λ y. sym (sum_by-cons (λ v. f v y) x xs))))

-- the last of them by itself
sum_last : (f : ℕ → ℕ) (a n : ℕ) → sum_by f (range_with_len a (suc n)) ≡ sum_by f (range_with_len a n) + f (a + n)
sum_last f a zero =
    sum_by-cons f a (range_with_len (a + 1) 0) ∙ (ap (λ x. f x + 0) (from_plus_zero a) ∙ swapped (f (a + 0)))
  where
    swapped : (x : ℕ) → x + 0 ≡ 0 + x
    swapped x = omega arith
sum_last f a (suc n) =
    let next : f (a + 1 + n) ≡ f (a + suc n) = ap (λ x. f x) (one_on a n) in
    omega (
      arith,
      sum_by-cons f a (range_with_len (a + 1) (suc n)),
      sum_by-cons f a (range_with_len (a + 1) n),
      sum_last f (a + 1) n,
      next,
    )
  where
    one_on : (x y : ℕ) → x + 1 + y ≡ x + suc y
    one_on x y = omega arith

pub up_to_is_sum : (f : ℕ → ℕ) (n : ℕ) → up_to f n ≡ sum_by f (range_with_len 0 n)
up_to_is_sum f zero = refl
up_to_is_sum f (suc n) =
    let last : f (0 + n) ≡ f n = ap (λ x. f x) (zero_plus n) in
    omega (arith, sum_last f 0 n, up_to_is_sum f n, last)

pub up_to_same : (f g : ℕ → ℕ) (n : ℕ) → ((i : ℕ) → i < n → f i ≡ g i) → up_to f n ≡ up_to g n
up_to_same f g zero same = refl
up_to_same f g (suc n) same =
    omega (arith, same n (omega arith), up_to_same f g n (λ i lt. same i (omega (arith, lt))))

-- the first of them by itself
pub up_to_first : (f : ℕ → ℕ) (n : ℕ) → up_to f (suc n) ≡ f 0 + up_to (λ i. f (suc i)) n
up_to_first f zero = refl
up_to_first f (suc n) = omega (arith, up_to_first f n)

pub up_to_times : (k : ℕ) (f : ℕ → ℕ) (n : ℕ) → up_to (λ i. k * f i) n ≡ k * up_to f n
up_to_times k f zero = omega arith
up_to_times k f (suc n) = omega (arith, up_to_times k f n)
