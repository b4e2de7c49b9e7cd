-- Where an act of the flat list is found among the stored ones.
use Rattle.std.proofs.Common.{◌≡◌, ◌⊎◌, inl, inr, ⊎_elim, zero-le, suc-le-suc, le_of_suc-le-suc, ℕ, zero, suc, ◌+◌, ◌-◌, ◌*◌, ◌%◌, ◌<◌, ◌≤◌, min, List, [], ◌∷◌, ◌++◌, length, get_or, slice_get, refl, sym, ap, ◌∙◌, subst, arith, length-append, suc-mul, zero-mul, mod-eq_of_lt}
use Rattle.std.proofs.lemmas.Bool.{cases_lt}
use native.Mathlib.Nat.{mod-eq-sub-mod}
use Rattle.job_script.specs.declared.head.Head.{Head}
use Rattle.job_script.specs.declared.head.Head.TheVariants.{Repeat}
use Rattle.job_script.specs.declared.stored.Item.{Item}
use Rattle.job_script.specs.Acts.{Act, Acts, no_acts, act, copies, written, flat, written_length, flat_length, too_many}
use Rattle.job_script.specs.inner.Ends.{ends_from, start_of}
use Rattle.job_script.specs.inner.Views.{acts_view}

-- ---- lengths

pub copies-length : {A : Type 0} (k : ℕ) (xs : List A) → length (copies k xs) ≡ k * length xs
copies-length zero xs = sym (zero-mul (length xs))
copies-length (suc k) xs = length-append xs (copies k xs) ∙ ap (λ n. length xs + n) (copies-length k xs) ∙ omega (arith, suc-mul k (length xs))

written-length : (h : Head) (body : Acts) (inner : List Act) → length (written h body inner) ≡ written_length h (length inner)
written-length (Repeat k) body inner = copies-length k inner
written-length _ body inner = refl

pub flat-length : (xs : Acts) → length (flat xs) ≡ flat_length xs
flat-length no_acts = refl
flat-length (act h body rest) =
    length-append (written h body (flat body)) (flat rest)
    ∙ ap (λ n. length (written h body (flat body)) + n) (flat-length rest)
    ∙ ap (λ n. n + flat_length rest) (written-length h body (flat body) ∙ ap (written_length h) (flat-length body))

one-length : (h : Head) (body : Acts) → length (written h body (flat body)) ≡ written_length h (flat_length body)
one-length h body = written-length h body (flat body) ∙ ap (written_length h) (flat-length body)

-- ---- a place in two lists

pub get_left : {A : Type 0} (xs ys : List A) (k : ℕ) → k < length xs → slice_get (xs ++ ys) k ≡ slice_get xs k
get_left [] ys k h = absurd (omega (arith, h))
get_left (x ∷ xs) ys zero h = refl
get_left (x ∷ xs) ys (suc k) h = get_left xs ys k (le_of_suc-le-suc h)

pub get_right : {A : Type 0} (xs ys : List A) (k : ℕ) → length xs ≤ k → slice_get (xs ++ ys) k ≡ slice_get ys (k - length xs)
get_right [] ys k h = ap (slice_get ys) (omega arith)
get_right (x ∷ xs) ys zero h = absurd (omega (arith, h))
get_right (x ∷ xs) ys (suc k) h = get_right xs ys k (le_of_suc-le-suc h) ∙ ap (slice_get ys) (omega arith)

-- ---- copies

-- a place of the copies is a place of the list
pub copied_at : {A : Type 0} (k : ℕ) (xs : List A) (i : ℕ) → i < k * length xs → slice_get (copies k xs) i ≡ slice_get xs (i % length xs)
copied_at zero xs i h = absurd (omega (arith, h, zero-mul (length xs)))
copied_at (suc k) xs i h =
    ⊎_elim
    (λ (less : i < length xs). get_left xs (copies k xs) i less ∙ ap (slice_get xs) (sym (mod-eq_of_lt less)))
    (λ (past : length xs ≤ i).
    get_right xs (copies k xs) i past
    ∙ copied_at k xs (i - length xs) (omega (arith, h, past, suc-mul k (length xs)))
    ∙ ap (slice_get xs) (sym (mod-eq-sub-mod past)))
    (cases_lt i (length xs))

-- ---- the search

-- at or below the number that is too large, the least of both is the number itself
min_is : (n place : ℕ) → place < too_many → min n too_many ≤ place → (min n too_many ≡ n) × (n ≤ place)
min_is n place few h = (omega (arith, few, h), omega (arith, few, h))

within : (n place : ℕ) → place < min n too_many → place < n
within n place h = omega (arith, h)

-- every end is at most the place: it is past the list
pub past_all : (items : List Item) (s place : ℕ) → s ≤ place → place < too_many
    → ((k : ℕ) → k < length items → get_or (ends_from s (acts_view items)) k 0 ≤ place) → s + flat_length (acts_view items) ≤ place
past_all [] s place le few h = omega (arith, le)
past_all (x ∷ xs) s place le few h =
    let n = s + written_length x.head (flat_length x.body) in
    let first = min_is n place few (h 0 (omega arith)) in
    let rest = past_all xs n place first.1 few (λ k lt. h (suc k) (omega (arith, lt))) in
    omega (arith, rest)

-- where an act begins, counted in the list and in the list without its first
start_is : (xs : List Item) (n index : ℕ) → min n too_many ≡ n → start_of n index (ends_from n (acts_view xs)) ≡ get_or (min n too_many ∷ ends_from n (acts_view xs)) index 0
start_is xs n zero e = sym e
start_is xs n (suc i) e = refl

pub found : (items : List Item) (s place index : ℕ) (d : Item) → s ≤ place → place < too_many → index < length items
    → ((k : ℕ) → k < index → get_or (ends_from s (acts_view items)) k 0 ≤ place)
    → place < get_or (ends_from s (acts_view items)) index 0
    → let i = get_or items index d in
    let before = start_of s index (ends_from s (acts_view items)) in
    (before ≤ place) × (place - before < written_length i.head (flat_length i.body))
    × (slice_get (flat (acts_view items)) (place - s) ≡ slice_get (written i.head i.body (flat i.body)) (place - before))
found [] s place index d le few in_list below above = absurd (omega (arith, in_list))
found (x ∷ xs) s place zero d le few in_list below above =
    let n = written_length x.head (flat_length x.body) in
    let less : place - s < n = omega (arith, le, within (s + n) place above) in
    (le, less, get_left (written x.head x.body (flat x.body)) (flat (acts_view xs)) (place - s) (subst (λ m. place - s < m) (sym (one-length x.head x.body)) less))
found (x ∷ xs) s place (suc index) d le few in_list below above =
    let n = written_length x.head (flat_length x.body) in
    let first = min_is (s + n) place few (below 0 (omega arith)) in
    let rest = found xs (s + n) place index d first.1 few (le_of_suc-le-suc in_list) (λ k lt. below (suc k) (suc-le-suc lt)) above in
    let start = start_is xs (s + n) index first.0 in
    let shifted = get_right (written x.head x.body (flat x.body)) (flat (acts_view xs)) (place - s) (subst (λ m. m ≤ place - s) (sym (one-length x.head x.body)) (omega (arith, first.1))) in
    let moved : place - s - length (written x.head x.body (flat x.body)) ≡ place - (s + n) = omega (arith, one-length x.head x.body, first.1) in
    subst
    (λ before. (before ≤ place) × (place - before < written_length (get_or xs index d).head (flat_length (get_or xs index d).body))
    × (slice_get (flat (acts_view (x ∷ xs))) (place - s) ≡ slice_get (written (get_or xs index d).head (get_or xs index d).body (flat (get_or xs index d).body)) (place - before)))
    start
    (rest.0, rest.1, shifted ∙ ap (slice_get (flat (acts_view xs))) moved ∙ rest.2)
