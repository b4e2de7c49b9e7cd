-- Histories are read with the newest event first, and stored with the oldest first.
use Rattle.std.proofs.Common.{◌≡◌, Bool, true, false, ◌||◌, ◌&&◌, not, List, [], ◌∷◌, ◌++◌, reverse, Option, Some, None, refl, ap, sym}
use Rattle.std.specs.List.{list_any, list_all, filter_map, cons_option}
use Rattle.std.specs.Option.{option_map_or}
use Rattle.std.proofs.lemmas.List.{reverse-append}
use Rattle.std.proofs.lemmas.List.Sorted.{list_any-IsPermutation, IsPermutation-reverse}

-- the event stored last is the newest
pub reverse_push : {X : Type 0} (xs : List X) (x : X) → reverse (xs ++ x ∷ []) ≡ x ∷ reverse xs
reverse_push xs x = reverse-append xs (x ∷ [])

-- the order doesn't matter to a test of some element
pub list_any-reverse : {X : Type 0} (p : X → Bool) (xs : List X) → list_any p (reverse xs) ≡ list_any p xs
list_any-reverse p xs = sym (list_any-IsPermutation p xs (reverse xs) (IsPermutation-reverse xs))

-- all pass where none fails
list_all_not_any : {X : Type 0} (p : X → Bool) (xs : List X)
    → list_all p xs ≡ not (list_any (λ x. not (p x)) xs)
list_all_not_any p [] = refl
list_all_not_any p (x ∷ xs) =
    elim (p x) as (λ b. (b && list_all p xs) ≡ not (not b || list_any (λ y. not (p y)) xs)) [
      | true ↦ list_all_not_any p xs
      | false ↦ refl
    ]

-- nor to a test of each
pub list_all-reverse : {X : Type 0} (p : X → Bool) (xs : List X) → list_all p (reverse xs) ≡ list_all p xs
list_all-reverse p xs =
    rw (list_all_not_any p (reverse xs), list_any-reverse (λ x. not (p x)) xs, ← list_all_not_any p xs)

-- a test of the items that h gives, as a test of each element
pub list_any-filter_map : {X Y : Type 0} (p : Y → Bool) (h : X → Option Y) (xs : List X)
    → list_any p (filter_map h xs) ≡ list_any (λ x. option_map_or p (h x) false) xs
list_any-filter_map p h [] = refl
list_any-filter_map {X} {Y} p h (x ∷ xs) =
    let test : X → Bool = λ z. option_map_or p (h z) false in
    let rest : List Y = filter_map h xs in
    let more : list_any p rest ≡ list_any test xs = list_any-filter_map p h xs in
    elim (h x) as (λ o. list_any p (cons_option o rest) ≡ (option_map_or p o false || list_any test xs)) [
      | None ↦ more
      | Some y ↦ ap (λ b. p y || b) more
    ]

pub list_all-filter_map : {X Y : Type 0} (p : Y → Bool) (h : X → Option Y) (xs : List X)
    → list_all p (filter_map h xs) ≡ list_all (λ x. option_map_or p (h x) true) xs
list_all-filter_map p h [] = refl
list_all-filter_map {X} {Y} p h (x ∷ xs) =
    let test : X → Bool = λ z. option_map_or p (h z) true in
    let rest : List Y = filter_map h xs in
    let more : list_all p rest ≡ list_all test xs = list_all-filter_map p h xs in
    elim (h x) as (λ o. list_all p (cons_option o rest) ≡ (option_map_or p o true && list_all test xs)) [
      | None ↦ more
      | Some y ↦ ap (λ b. p y && b) more
    ]
