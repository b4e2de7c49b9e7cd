-- A piece as its step goes over it, cell by cell.
use Rattle.std.proofs.Common.{ℕ, zero, suc, ◌+◌, ◌≡◌, ◌-◌, ◌≤◌, ◌<◌, List, [], ◌∷◌, ◌++◌, length, take, drop, set, get_or, refl, ap, sym, subst, ◌∙◌, arith}
use Rattle.std.proofs.lemmas.List.{append-nil, append_assoc, drop_all, length-drop, length-set, take-append-drop, take_all}
use Rattle.std.proofs.lemmas.List.Folds.{concat-append}
use Rattle.std.proofs.Math.Numerals.{add-one}
use Rattle.std.specs.List.{concat}
use Rattle.job_kernels.specs.Stencil.{weighed, AtMost}
use Rattle.chunked_stencil.specs.Pieces.{first_or, last_or, piece_step}

-- So far it has come: what is done and what a step makes of the rest are what it makes of the piece.
pub record HasCome (left right before place : ℕ) (old now : List ℕ) : Type 0 where
  pub whole : take place now ++ piece_step before (drop place now) right ≡ piece_step left old right
  pub most : AtMost 1000000 now
  pub low : before ≤ 1000000

first_behind : (right place : ℕ) (cells : List ℕ) → place < length cells
    → first_or right (drop place cells) ≡ get_or cells place 0
first_behind right place [] lt = absurd (omega (arith, lt))
first_behind right zero (cell ∷ cells) lt = refl
first_behind right (suc place) (cell ∷ cells) lt = first_behind right place cells (omega (arith, lt))

none_behind : (right place : ℕ) (cells : List ℕ) → length cells ≤ place
    → first_or right (drop place cells) ≡ right
none_behind right zero [] le = refl
none_behind right (suc place) [] le = refl
none_behind right zero (cell ∷ cells) le = absurd (omega (arith, le))
none_behind right (suc place) (cell ∷ cells) le = none_behind right place cells (omega (arith, le))

-- the cell at a place is weighed
abbrev Weighs : ℕ → ℕ → ℕ → ℕ → List ℕ → ℕ → Type 0
Weighs before right place next cells new =
    new ≡ weighed before (get_or cells place 0) (first_or right (drop next cells))
    → take next (set cells place new)
    ++ piece_step (get_or cells place 0) (drop next (set cells place new)) right
    ≡ take place cells ++ piece_step before (drop place cells) right

weighs : (before right place : ℕ) (cells : List ℕ) (new : ℕ) → place < length cells
    → Weighs before right place (suc place) cells new
weighs before right place [] new lt e = absurd (omega (arith, lt))
weighs before right zero (cell ∷ cells) new lt e = rw e
weighs before right (suc place) (cell ∷ cells) new lt e =
    ap (λ row. cell ∷ row) (weighs before right place cells new (omega (arith, lt)) e)

weighed_at : (before right place : ℕ) (cells : List ℕ) (new : ℕ) → place < length cells
    → Weighs before right place (place + 1) cells new
weighed_at before right place cells new lt =
    subst (λ next. Weighs before right place next cells new) (sym (add-one place))
    (weighs before right place cells new lt)

set_at_most : (cells : List ℕ) (place new : ℕ) → AtMost 1000000 cells → new ≤ 1000000
    → AtMost 1000000 (set cells place new)
set_at_most [] place new most le i = most i
set_at_most (cell ∷ cells) zero new most le zero = le
set_at_most (cell ∷ cells) zero new most le (suc i) = most (suc i)
set_at_most (cell ∷ cells) (suc place) new most le zero = most zero
set_at_most (cell ∷ cells) (suc place) new most le (suc i) =
    set_at_most cells place new (λ j. most (suc j)) le i

-- the step goes on to the next cell
pub goes_on : (left right before place new : ℕ) (old now : List ℕ) → HasCome left right before place old now
    → place + 1 < length now → new ≡ weighed before (get_or now place 0) (get_or now (place + 1) 0)
    → new ≤ 1000000
    → HasCome left right (get_or now place 0) (place + 1) old (set now place new)
goes_on left right before place new old now come lt e le =
    let here : place < length now = omega (arith, lt) in
    let next : new ≡ weighed before (get_or now place 0) (first_or right (drop (place + 1) now)) =
    rw (first_behind right (place + 1) now lt) e in
    record {
      whole = weighed_at before right place now new here next ∙ come.whole;
      most = set_at_most now place new come.most le;
      low = come.most place;
    }

-- the step has come to the last cell, and weighs it
pub is_done : (left right before place new : ℕ) (old now : List ℕ) → HasCome left right before place old now
    → place + 1 ≡ length now → new ≡ weighed before (get_or now place 0) right
    → set now place new ≡ piece_step left old right
is_done left right before place new old now come end e =
    let here : place < length now = omega (arith, end) in
    let none : length now ≤ place + 1 = omega (arith, end) in
    let last : new ≡ weighed before (get_or now place 0) (first_or right (drop (place + 1) now)) =
    rw (none_behind right (place + 1) now none) e in
    let all : length (set now place new) ≤ place + 1 = rw (length-set now place new) none in
    let whole = weighed_at before right place now new here last ∙ come.whole in
    let row = set now place new in
    rw (take_all (place + 1) row all, drop_all (place + 1) row all, append-nil row) at whole

pub last_is : (other : ℕ) (cells : List ℕ) (d : ℕ) → 0 < length cells
    → get_or cells (length cells - 1) d ≡ last_or other cells
last_is other [] d lt = absurd (omega (arith, lt))
last_is other (cell ∷ []) d lt = refl
last_is other (cell ∷ second ∷ cells) d lt =
    let here : length (cell ∷ second ∷ cells) - 1 ≡ suc (length (second ∷ cells) - 1) = omega arith in
    rw here (last_is cell (second ∷ cells) d (omega arith))

-- ---- lists of cells that are low

pub pushed_at_most : (cells : List ℕ) (cell : ℕ) → AtMost 1000000 cells → cell ≤ 1000000
    → AtMost 1000000 (cells ++ cell ∷ [])
pushed_at_most [] cell most le zero = le
pushed_at_most [] cell most le (suc i) = omega arith
pushed_at_most (first ∷ cells) cell most le zero = most zero
pushed_at_most (first ∷ cells) cell most le (suc i) = pushed_at_most cells cell (λ j. most (suc j)) le i

pub taken_at_most : (number : ℕ) (cells : List ℕ) → AtMost 1000000 cells → AtMost 1000000 (take number cells)
taken_at_most zero cells most i = omega arith
taken_at_most (suc number) [] most i = omega arith
taken_at_most (suc number) (cell ∷ cells) most zero = most zero
taken_at_most (suc number) (cell ∷ cells) most (suc i) = taken_at_most number cells (λ j. most (suc j)) i

pub left_at_most : (number : ℕ) (cells : List ℕ) → AtMost 1000000 cells → AtMost 1000000 (drop number cells)
left_at_most zero cells most i = most i
left_at_most (suc number) [] most i = omega arith
left_at_most (suc number) (cell ∷ cells) most i = left_at_most number cells (λ j. most (suc j)) i

-- ---- a row as it is split

-- so many turns were taken: these pieces and the rest are the row
pub record IsSplit (pieces : List (List ℕ)) (rest : List ℕ) (turns : ℕ) (row : List ℕ) : Type 0 where
  pub whole : concat pieces ++ rest ≡ row
  pub few : length rest + turns ≤ length row
  pub low : AtMost 1000000 rest

-- as many cells more are a piece of their own
pub splits_on : (pieces : List (List ℕ)) (rest : List ℕ) (turns : ℕ) (row : List ℕ) (number : ℕ)
    → IsSplit pieces rest turns row
    → 0 < number → number ≤ length rest
    → IsSplit (pieces ++ take number rest ∷ []) (drop number rest) (turns + 1) row
splits_on pieces rest turns row number split some le =
    let there : (take number rest ++ []) ++ drop number rest ≡ rest =
    rw (append-nil (take number rest)) (take-append-drop number rest) in
    record {
      whole =
          rw (
            concat-append pieces (take number rest ∷ []),
            append_assoc (concat pieces)
                (take number rest ++ []) (drop number rest),
            there,
          )
          split.whole;
      few = let left = length-drop number rest in omega (arith, left, split.few, some, le);
      low = left_at_most number rest split.low;
    }
