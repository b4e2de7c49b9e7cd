-- The first so many items of a list, after an edit among them.
use Rattle.std.proofs.Common.{◌≡◌, ℕ, zero, suc, ◌+◌, ◌-◌, ◌<◌, ◌≤◌, List, [], ◌∷◌, length, set, take, drop, refl, ap, sym, ◌∙◌, arith}
use Rattle.std.specs.List.{insert, remove}
use Rattle.std.proofs.lemmas.List.{length-take-le, take-append-drop, take_at}
use Rattle.std.proofs.lemmas.List.Edits.{length-insert, length-remove, insert-append_left, remove-append_left}

pub set_in_use : {X : Type 0} (n : ℕ) (xs : List X) (i : ℕ) (y : X)
    → take n (set xs i y) ≡ set (take n xs) i y
set_in_use zero xs i y = refl
set_in_use (suc n) [] i y = refl
set_in_use (suc n) (x ∷ xs) zero y = refl
set_in_use (suc n) (x ∷ xs) (suc i) y = ap (λ ys. x ∷ ys) (set_in_use n xs i y)

pub insert_in_use : {X : Type 0} (n : ℕ) (xs : List X) (i : ℕ) (y : X) → i ≤ n → n ≤ length xs
    → take (n + 1) (insert xs i y) ≡ insert (take n xs) i y
insert_in_use n xs i y inside within =
    let us = take n xs in
    let ds = drop n xs in
    let long : length us ≡ n = length-take-le n xs within in
    let low : i ≤ length us = omega (arith, long, inside) in
    ap (λ ys. take (n + 1) (insert ys i y)) (sym (take-append-drop n xs))
    ∙ (ap (λ ys. take (n + 1) ys) (insert-append_left us ds i y low)
    ∙ take_at (insert us i y) ds (n + 1) (omega (arith, length-insert us i y low, long)))

pub remove_in_use : {X : Type 0} (n : ℕ) (xs : List X) (i : ℕ) → i < n → n ≤ length xs
    → take (n - 1) (remove xs i) ≡ remove (take n xs) i
remove_in_use n xs i inside within =
    let us = take n xs in
    let ds = drop n xs in
    let long : length us ≡ n = length-take-le n xs within in
    let low : i < length us = omega (arith, long, inside) in
    ap (λ ys. take (n - 1) (remove ys i)) (sym (take-append-drop n xs))
    ∙ (ap (λ ys. take (n - 1) ys) (remove-append_left us ds i low)
    ∙ take_at (remove us i) ds (n - 1) (omega (arith, length-remove us i low, long)))
