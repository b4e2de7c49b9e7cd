-- Sums over lists and books.
use Rattle.std.proofs.Common.{◌≡◌, ℕ, ◌+◌, List, [], ◌∷◌, ◌++◌, map, refl, sym, arith}
use Rattle.std.specs.List.{sum_by, sum as total}
use Rattle.std.proofs.lemmas.List.Sums.{sum-map, sum_by-append, sum_by-cons}
use Rattle.phase_model.specs.Amounts.{Amount}
use Rattle.share_book.specs.Accounts.{Entry as Book, sum, sum_of_books}

pub sum_map : {X Y : Type 0} (f : Y → ℕ) (g : X → Y) (xs : List X) → sum_by f (map g xs) ≡ sum_by (λ x. f (g x)) xs
sum_map f g [] = refl
sum_map f g (x ∷ xs) = omega (arith, sum_by-cons f (g x) (map g xs), sum_by-cons (λ y. f (g y)) x xs, sum_map f g xs)

pub same_amounts : (a b : Amount) → a.events ≡ b.events → a.up ≡ b.up → a.down ≡ b.down → a ≡ b
same_amounts a b events up down =
    let whole : record { events = a.events; up = a.up; down = a.down } ≡ record { events = b.events; up = b.up; down = b.down } = cc in
    whole

-- the sums of the phasers' books
pub books_sum : (books : List Book) → sum_of_books books ≡ sum (map (λ b. b.totals) books)
books_sum books =
    same_amounts (sum_of_books books) (sum (map (λ b. b.totals) books))
    (sym (sum_map (λ (a : Amount). a.events) (λ (b : Book). b.totals) books))
    (sym (sum_map (λ (a : Amount). a.up) (λ (b : Book). b.totals) books))
    (sym (sum_map (λ (a : Amount). a.down) (λ (b : Book). b.totals) books))

-- one number more
pub total_more : {X : Type 0} (f : X → ℕ) (xs : List X) (x : X) → total (map f (xs ++ x ∷ [])) ≡ total (map f xs) + f x
total_more f xs x =
    omega (arith, sum-map f (xs ++ x ∷ []), sum-map f xs, sum_by-append f xs (x ∷ []), sum_by-cons f x [])
