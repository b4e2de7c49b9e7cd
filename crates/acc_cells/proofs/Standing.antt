-- What the cells stand for once more values were folded.
use Rattle.std.proofs.Common.{◌≡◌, ◌≢◌, ℕ, ◌==◌, true, false, cond, max, ◌+◌, ◌-◌, ◌%◌, ◌<◌, ◌≤◌, List, ◌++◌, length, Some, slice_get, ℤ, inl, inr, refl, ap, sym, ◌∙◌, subst, arith}
use Rattle.std.specs.Option.{option_map}
use Rattle.std.proofs.lemmas.Int.{ints}
use Rattle.std.proofs.lemmas.Bool.{cases_Bool, eq-eqb, eqb-true, false≢true}
use Rattle.std.proofs.lemmas.Option.{slice_get_within}
use Rattle.phase_model.specs.declared.op.Op.{Op}
use Rattle.phase_model.specs.declared.op.Look.{Look}
use Rattle.phase_model.specs.declared.op.Look.TheVariants.{Value, Nothing}
use Rattle.phase_model.specs.Values.{fold}
use Rattle.acc_cells.specs.declared.cell.Cell.{Cell}
use Rattle.acc_cells.specs.declared.ring.Row.{Row}
use Rattle.acc_cells.specs.declared.sums.Sums.{Sums}
use Rattle.acc_cells.specs.Cells.{Kept, StandsFor, Holds, IsKept, IsAmong, IsInRange, IsInReach, AreSumsInRange, tally, held, cell_in, cell_for, cell_of, cell_joined, row_at, fold_of_cell, with_taken, from_after, most_values}
use Rattle.acc_cells.proofs.Tallies.{fold_of_cell-tally, tally-append}
use Rattle.acc_cells.proofs.Taking.{cell_held, count_within}
use Rattle.acc_cells.proofs.Rings.{apart, cell_for-own, cell_for-other}

-- what changes where cells are joined to those of phase p: its row, and below which phases are given up
pub record IsFolded (k n : Kept) (p : ℕ) (cells : List Cell) : Type 0 where
  pub ops : n.ops ≡ k.ops
  pub room : n.room ≡ k.room
  pub no_less : k.from ≤ n.from
  pub near : p + 1 ≤ n.from + k.room
  pub kept : k.from ≤ p
  pub phase : (row_at n.rows (p % k.room)).phase ≡ p
  pub here : (a : ℕ) → a < 4 → cell_of n a p ≡ cell_joined (cell_in cells a) (cell_of k a p)
  pub others : (i : ℕ) → i ≢ p % k.room → row_at n.rows i ≡ row_at k.rows i

-- the cell of each other phase of the window stays
cell_stays : (k n : Kept) (p : ℕ) (cells : List Cell) (a q : ℕ) → IsKept k.ops k.room k.from k.rows k.sums
    → IsFolded k n p cells → (p == q) ≡ false → n.from ≤ q → cell_of n a q ≡ cell_of k a q
cell_stays k n p cells a q is_kept folded other in_window =
    let differ : p ≡ q → ⊥ = λ s. false≢true (sym other ∙ eq-eqb p q s) in
    ap (λ r. cell_for (row_at n.rows (q % r)) a q) folded.room
    ∙ elim (cases_Bool (q % k.room == p % k.room)) [
      | inl e ↦
          let same : q % k.room ≡ p % k.room = eqb-true (q % k.room) (p % k.room) e in
          let mine : (row_at n.rows (q % k.room)).phase ≡ p =
          ap (λ i. (row_at n.rows i).phase) same ∙ folded.phase in
          cell_for-other (row_at n.rows (q % k.room)) a q (ap (λ x. x == q) mine ∙ other)
          ∙ sym (elim (cases_Bool ((row_at k.rows (q % k.room)).phase == q)) [
            | inl old ↦
                let was : (row_at k.rows (q % k.room)).phase ≡ q =
                eqb-true (row_at k.rows (q % k.room)).phase q old in
                absurd (apart k.room q p (λ s. differ (sym s))
                (omega (arith, was, is_kept.window (q % k.room), folded.kept))
                (omega (arith, folded.near, in_window)) same)
            | inr old ↦ cell_for-other (row_at k.rows (q % k.room)) a q old
          ])
      | inr e ↦
          ap (λ (x : Row). cell_for x a q)
          (folded.others (q % k.room) (λ s. false≢true (sym e ∙ eq-eqb (q % k.room) (p % k.room) s)))
    ]

-- so the cells stand for the values with those of the phase more
pub stands_taken : (k n : Kept) (p : ℕ) (cells : List Cell) (values : ℕ → ℕ → List ℤ) (mine : ℕ → List ℤ)
    → IsKept k.ops k.room k.from k.rows k.sums → IsFolded k n p cells → StandsFor k values → Holds cells mine
    → StandsFor n (with_taken p mine values)
stands_taken k n p cells values mine is_kept folded stands holds a q in_ops in_window =
    let a_in_ops : a < length k.ops = omega (arith, in_ops, ap (λ (xs : List Op). length xs) folded.ops) in
    let near : a < 4 = omega (arith, a_in_ops, is_kept.few) in
    elim (cases_Bool (p == q)) [
      | inl e ↦
          let here : cell_of n a p ≡ tally (mine a ++ values a p) =
          folded.here a near
          ∙ (ap (λ c. cell_joined c (cell_of k a p)) (cell_held cells mine a near holds)
          ∙ (ap (λ c. cell_joined (tally (mine a)) c) (stands a p a_in_ops folded.kept)
          ∙ sym (tally-append (mine a) (values a p))))
          in
          rw e (subst (λ (x : ℕ). cell_of n a x ≡ tally (mine a ++ values a x)) (eqb-true p q e) here)
      | inr e ↦
          rw e
          (cell_stays k n p cells a q is_kept folded e in_window
          ∙ stands a q a_in_ops (omega (arith, folded.no_less, in_window)))
    ]

-- the cells of both are in range
joined_in_range : (c d : Cell) → IsInRange c → IsInRange d → c.count + d.count ≤ most_values
    → IsInRange (cell_joined c d)
joined_in_range c d one other few =
    record {
      count = few;
      up = omega (arith, one.up, other.up);
      down = omega (arith, one.down, other.down);
    }

-- the cell of a phase is in range
pub cell_among : (k : Kept) (a p : ℕ) → a < 4 → IsKept k.ops k.room k.from k.rows k.sums
    → IsAmong k.sums (cell_of k a p)
cell_among k a p near is_kept =
    elim (cases_Bool ((row_at k.rows (p % k.room)).phase == p)) [
      | inl e ↦
          subst (λ (c : Cell). IsAmong k.sums c)
          (sym (cell_for-own (row_at k.rows (p % k.room)) a p (eqb-true (row_at k.rows (p % k.room)).phase p e)))
          (is_kept.cells_in_range (p % k.room) a near)
      | inr e ↦
          subst (λ (c : Cell). IsAmong k.sums c)
          (sym (cell_for-other (row_at k.rows (p % k.room)) a p e))
          (omega arith, record { count = omega arith; up = omega arith; down = omega arith })
    ]

-- more values reach further
pub reach_more : (m n : ℕ) (x : Look ℤ) → m ≤ n → IsInReach m x → IsInReach n x
reach_more m n (Value v) more near = (omega (arith, ints, more, near.0), omega (arith, ints, more, near.1))
reach_more m n Nothing more near = tt

-- what is seen of a cell is in reach of all values
pub in_reach : (k : Kept) (a p : ℕ) (cell : Cell) (x : Look ℤ) → a < 4 → IsKept k.ops k.room k.from k.rows k.sums
    → cell ≡ cell_of k a p → IsInReach cell.count x → IsInReach k.sums.values x
in_reach k a p cell x near is_kept is reach =
    let few : cell.count ≤ k.sums.values =
    omega (arith, ap (λ (c : Cell). c.count) is, (cell_among k a p near is_kept).0) in
    reach_more cell.count k.sums.values x few reach

-- the rows stay in the window, and the cells in range
pub kept_folded : (k n : Kept) (p : ℕ) (cells : List Cell)
    → IsKept k.ops k.room k.from k.rows k.sums → IsFolded k n p cells
    → ((a : ℕ) → a < 4 → IsInRange (cell_in cells a))
    → n.sums.values ≡ k.sums.values + held cells → AreSumsInRange n.sums
    → IsKept n.ops n.room n.from n.rows n.sums
kept_folded k n p cells is_kept folded cells_in_range more in_range =
    record {
      few = omega (arith, is_kept.few, ap (λ (xs : List Op). length xs) folded.ops);
      some = omega (arith, is_kept.some, folded.room);
      window = λ i.
          elim (cases_Bool (i == p % k.room)) [
            | inl e ↦
                omega (
                  arith,
                  ap (λ j. (row_at n.rows j).phase) (eqb-true i (p % k.room) e),
                  folded.phase,
                  folded.near,
                  folded.room,
                )
            | inr e ↦
                omega (
                  arith,
                  ap (λ (x : Row). x.phase) (other_row i e),
                  is_kept.window i,
                  folded.no_less,
                  folded.room,
                )
          ];
      sums_in_range = in_range;
      cells_in_range = λ i a near.
          elim (cases_Bool (i == p % k.room)) [
            | inl e ↦
                let was = cell_among k a p near is_kept in
                let few : (cell_in cells a).count + (cell_of k a p).count ≤ n.sums.values =
                omega (arith, was.0, count_within cells a, more) in
                let both : IsAmong n.sums (cell_joined (cell_in cells a) (cell_of k a p)) = (
                  few,
                  joined_in_range (cell_in cells a) (cell_of k a p) (cells_in_range a near) was.1
                      (omega (arith, few, in_range.values)),
                ) in
                let own : (row_at n.rows (p % n.room)).phase ≡ p =
                ap (λ r. (row_at n.rows (p % r)).phase) folded.room ∙ folded.phase in
                let is : cell_joined (cell_in cells a) (cell_of k a p) ≡ cell_in (row_at n.rows i).cells a =
                sym (folded.here a near)
                ∙ (cell_for-own (row_at n.rows (p % n.room)) a p own
                ∙ (ap (λ r. cell_in (row_at n.rows (p % r)).cells a) folded.room
                ∙ ap (λ j. cell_in (row_at n.rows j).cells a) (sym (eqb-true i (p % k.room) e))))
                in
                subst (λ (c : Cell). IsAmong n.sums c) is both
            | inr e ↦
                let was = is_kept.cells_in_range i a near in
                subst (λ (x : Row). IsAmong n.sums (cell_in x.cells a)) (sym (other_row i e))
                (omega (arith, was.0, more), was.1)
          ];
    }
  where
    other_row : (i : ℕ) → (i == p % k.room) ≡ false → row_at n.rows i ≡ row_at k.rows i
    other_row i e = folded.others i (λ s. false≢true (sym e ∙ eq-eqb i (p % k.room) s))

-- more values don't matter to the rows
pub kept_more : (k : Kept) (more : Sums) → IsKept k.ops k.room k.from k.rows k.sums
    → k.sums.values ≤ more.values → AreSumsInRange more → IsKept k.ops k.room k.from k.rows more
kept_more k more is_kept no_less in_range =
    record {
      few = is_kept.few;
      some = is_kept.some;
      window = is_kept.window;
      sums_in_range = in_range;
      cells_in_range = λ i a near.
          let was = is_kept.cells_in_range i a near in
          (omega (arith, was.0, no_less), was.1);
    }

-- a reader of the cell of a and p sees what the values sent there fold to
pub folds_at : (k : Kept) (values : ℕ → ℕ → List ℤ) (a p : ℕ) (op : Op) (cell : Cell)
    → k.from ≤ p → slice_get k.ops a ≡ Some op → cell ≡ cell_of k a p → StandsFor k values
    → Some (fold_of_cell op cell) ≡ option_map (λ o. fold o (values a p)) (slice_get k.ops a)
folds_at k values a p op cell in_window known here stands =
    let was : cell ≡ tally (values a p) = here ∙ stands a p (slice_get_within k.ops a op known) in_window in
    rw known (ap (λ l. Some l) (ap (λ c. fold_of_cell op c) was ∙ fold_of_cell-tally op (values a p)))

-- a phase of the first time round moves nothing
pub from_stays : (n p : ℕ) (k : Kept) → p < k.room → from_after n p k ≡ k.from
from_stays n p k early =
    let same : max k.from (p + 1 - k.room) ≡ k.from = omega (arith, early) in
    elim (n == 0) as (λ b. cond b k.from (max k.from (p + 1 - k.room)) ≡ k.from) [ true ↦ refl | false ↦ same ]
