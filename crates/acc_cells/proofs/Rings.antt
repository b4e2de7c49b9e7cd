-- Rows and their places round the ring.
use Rattle.std.proofs.Common.{◌≡◌, ◌≢◌, ℕ, zero, suc, ◌==◌, false, cond, ◌+◌, ◌*◌, ◌/◌, ◌%◌, ◌<◌, ◌≤◌, List, [], ◌∷◌, ◌++◌, inl, inr, refl, ap, sym, arith}
use Rattle.std.proofs.lemmas.Bool.{cases_lt, cases_order, eq-eqb}
use Rattle.std.proofs.lemmas.Nat.{div-add-mod'}
use Rattle.acc_cells.specs.declared.ring.Row.{Row}
use Rattle.acc_cells.specs.Cells.{no_row, row_at, cell_in, cell_for, empty_cell}

-- a row of no value more is none more
pub row_at-more : (rows : List Row) (i : ℕ) → row_at (rows ++ no_row ∷ []) i ≡ row_at rows i
row_at-more [] zero = refl
row_at-more [] (suc i) = refl
row_at-more (x ∷ xs) zero = refl
row_at-more (x ∷ xs) (suc i) = row_at-more xs i

-- a greater factor gives at least one more of the other
more_of : (a b n : ℕ) → a < b → a * n + n ≤ b * n
more_of a b n less = grind (arith, less)

-- two numbers, the greater one nearer than n, with one remainder are the same
same_later : (n j k : ℕ) → j ≤ k → k < j + n → j % n ≡ k % n → k ≤ j
same_later n j k low near same =
    let at_j = div-add-mod' j n in
    let at_k = div-add-mod' k n in
    elim (cases_lt (j / n) (k / n)) [
      | inl less ↦
          let more = more_of (j / n) (k / n) n less in
          absurd (omega (arith, at_j, at_k, same, more, near))
      | inr most ↦ elim (cases_lt (k / n) (j / n)) [
        | inl fewer ↦
            let more = more_of (k / n) (j / n) n fewer in
            omega (arith, at_j, at_k, same, more)
        | inr equal ↦
            let is : k / n ≡ j / n = omega (arith, most, equal) in
            let times : k / n * n ≡ j / n * n = ap (λ q. q * n) is in
            omega (arith, at_j, at_k, same, times)
      ]
    ]

-- phases that are nearer than n have places of their own
pub apart : (n j k : ℕ) → j ≢ k → j < k + n → k < j + n → j % n ≢ k % n
apart n j k other near close same =
    elim (cases_order j k) [
      | inl e ↦ other e
      | inr (inl less) ↦
          let most = same_later n j k (omega (arith, less)) close same in
          omega (arith, less, most)
      | inr (inr more) ↦
          let most = same_later n k j (omega (arith, more)) near (sym same) in
          omega (arith, more, most)
    ]

-- the row of a phase has its cells
pub cell_for-own : (row : Row) (a p : ℕ) → row.phase ≡ p → cell_for row a p ≡ cell_in row.cells a
cell_for-own row a p own =
    ap (λ t. cond t (cell_in row.cells a) empty_cell) (eq-eqb row.phase p own)

-- the row of another phase has none
pub cell_for-other : (row : Row) (a p : ℕ) → (row.phase == p) ≡ false → cell_for row a p ≡ empty_cell
cell_for-other row a p other = ap (λ t. cond t (cell_in row.cells a) empty_cell) other
