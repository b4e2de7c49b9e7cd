-- A partial of one value.
use Rattle.std.proofs.Common.{◌≡◌, ℕ, Bool, ◌==◌, ◌&&◌, true, false, cond, ◌<◌, List, [], ◌∷◌, ◌++◌, length, set, get_or, Some, ℤ, inl, inr, refl, ap, sym, ◌∙◌, arith}
use Rattle.std.proofs.lemmas.Bool.{cases_Bool, eq-eqb, eqb-true, false≢true}
use Rattle.std.proofs.lemmas.List.{length-set, get_or-set_same, get_or-set_other}
use Rattle.std.proofs.lemmas.Option.{slice_get-get_or, get_or_from_slice_get}
use Rattle.acc_cells.specs.declared.cell.Cell.{Cell}
use Rattle.acc_cells.specs.Cells.{Kept, StandsFor, Holds, tally, cell_in, cell_with, empty_cell, no_partial, with_sent, with_taken}
use Rattle.acc_cells.proofs.Taking.{empty_at}

-- it has the value for its accumulator alone
abbrev pub only : ℕ → ℤ → ℕ → List ℤ
only a v b = cond (a == b) (v ∷ []) []

-- each cell of a partial of one value is the tally of it, or of none
pub one_holds : (a : ℕ) (v : ℤ) → a < 4
    → Holds (set no_partial a (cell_with v (cell_in no_partial a))) (only a v)
one_holds a v near b b_near =
    let one : Cell = cell_with v (cell_in no_partial a) in
    let none : (i : ℕ) → i < 4 → cell_in no_partial i ≡ empty_cell =
    λ i i_near. get_or_from_slice_get no_partial i empty_cell empty_cell (empty_at i i_near) in
    let within : b < length (set no_partial a one) = omega (arith, b_near, length-set no_partial a one) in
    slice_get-get_or (set no_partial a one) b empty_cell within
    ∙ ap (λ c. Some c) (elim (cases_Bool (a == b)) [
      | inl e ↦
          rw e
          (ap (λ i. get_or (set no_partial a one) i empty_cell) (sym (eqb-true a b e))
          ∙ (get_or-set_same no_partial a one empty_cell near
          ∙ ap (λ c. cell_with v c) (none a near)))
      | inr e ↦
          rw e
          (get_or-set_other no_partial a b one empty_cell (λ s. false≢true (sym e ∙ eq-eqb a b (sym s)))
          ∙ none b b_near)
    ])

-- so taking it in is sending the value
pub taken_is_sent : (k : Kept) (a p : ℕ) (v : ℤ) (values : ℕ → ℕ → List ℤ)
    → StandsFor k (with_taken p (only a v) values) → StandsFor k (with_sent a p v values)
taken_is_sent k a p v values stands b q in_ops in_window =
    stands b q in_ops in_window ∙ ap (λ (vs : List ℤ). tally vs) (same (a == b) (p == q))
  where
    same : (x y : Bool) → cond y (cond x (v ∷ []) [] ++ values b q) (values b q)
        ≡ cond (x && y) (v ∷ values b q) (values b q)
    same true true = refl
    same true false = refl
    same false true = refl
    same false false = refl
