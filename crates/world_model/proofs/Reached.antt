-- The lines where a phase was come to, and where a value was sent.
use Rattle.std.proofs.Common.{mul_comm, ◌≡◌, ℕ, ◌+◌, ◌*◌, ◌<◌, ◌≤◌, nat_lt, max, List, [], ◌∷◌, ◌++◌, length, get_or, set, refl, ap, sym, subst, ◌∙◌, arith, inl, inr, ℤ}
use Rattle.std.specs.List.{flat_map}
use Rattle.std.proofs.lemmas.Bool.{cases_Bool, cases_lt, lt-ltb, le-ltb}
use Rattle.std.proofs.lemmas.Nat.{mul-add-lt}
use Rattle.std.proofs.lemmas.Int.{ints}
use Rattle.phase_model.specs.declared.history.Event.{Event}
use Rattle.phase_model.specs.declared.history.Event.TheVariants.{Send}
use Rattle.phase_model.specs.declared.op.Op.{Op}
use Rattle.phase_model.specs.declared.op.Op.TheVariants.{Sum, Least, Greatest}
use Rattle.phase_model.specs.Amounts.{totals}
use Rattle.phase_model.specs.Phases.{signals}
use Rattle.phase_model.specs.Values.{sent, fold}
use Rattle.world_model.specs.declared.report.FoldLine.{FoldLine}
use Rattle.world_model.specs.Report.{below, phase_count, folds_from}
use Rattle.world_model.specs.inner.Folds.{FoldState, blank_line, fold_with, HasRoom, HasPlace, place_of, reached, value_sent}
use Rattle.world_model.proofs.Reaching.{none_sent}
use Rattle.world_model.proofs.Rows.{rows_more, rows_length, rows_read, rows_written}
use Rattle.world_model.proofs.FoldRows.{row_length, row_agrees, row_read, row_written, row_kept}
use Rattle.world_model.proofs.Sums.{sum_high, sum_low}

-- the lines of the first n phases
abbrev pub rows : List Op → List Event → ℕ → List FoldLine
rows ops h n = flat_map (λ p. folds_from p 0 ops h) (below n)

pub reached_ops : (p : ℕ) (k : FoldState) → (reached p k).ops ≡ k.ops
reached_ops p k =
    elim (cases_Bool (nat_lt p k.phases)) [
      | inl e ↦ rw e refl
      | inr e ↦ rw e refl
    ]

pub reached_phases : (p n : ℕ) (k : FoldState) → k.phases ≡ n → p ≤ n → (reached p k).phases ≡ max (p + 1) n
reached_phases p n k is within =
    elim (cases_lt p k.phases) [
      | inl e ↦ rw (lt-ltb p k.phases e) (omega (arith, e, is))
      | inr e ↦ rw (le-ltb p k.phases e) (omega (arith, e, is, within))
    ]

pub reached_lines : (p : ℕ) (k : FoldState) (h : List Event) → k.phases ≡ phase_count h → k.lines ≡ rows k.ops h (phase_count h) → p ≤ phase_count h
    → (reached p k).lines ≡ rows k.ops h (max (p + 1) (phase_count h))
reached_lines p k h is lines within =
    elim (cases_lt p k.phases) [
      | inl e ↦
          let top : max (p + 1) (phase_count h) ≡ phase_count h = omega (arith, e, is) in
          rw (lt-ltb p k.phases e, top) lines
      | inr e ↦
          let n : ℕ = phase_count h in
          let top : max (p + 1) (phase_count h) ≡ phase_count h + 1 = omega (arith, e, is, within) in
          let row : folds_from k.phases 0 k.ops [] ≡ folds_from (phase_count h) 0 k.ops h =
          ap (λ m. folds_from m 0 k.ops []) is
          ∙ row_agrees (phase_count h) 0 k.ops [] h (λ b _. sym (none_sent b (phase_count h) h (omega arith)))
          in
          rw (le-ltb p k.phases e, top)
          (ap (λ ls. ls ++ folds_from k.phases 0 k.ops []) lines
          ∙ (ap (λ ls. rows k.ops h (phase_count h) ++ ls) row ∙ sym (rows_more (λ q. folds_from q 0 k.ops h) (phase_count h))))
    ]

-- the line that a value changes
pub line_read : (ops : List Op) (h : List Event) (n p a : ℕ) → p < n → a < length ops
    → get_or (rows ops h n) (p * length ops + a) blank_line ≡ record { phase = p; acc = a; value = fold (get_or ops a Sum) (sent a p h) }
line_read ops h n p a within inside =
    let first : 0 + a ≡ a = omega arith in
    rows_read (λ q. folds_from q 0 ops h) n (length ops) p a blank_line (λ q. row_length q 0 ops h) within inside
    ∙ (row_read p 0 ops h a blank_line inside ∙ ap (λ b. record { phase = p; acc = b; value = fold (get_or ops a Sum) (sent b p h) }) first)

-- a sum of few values has room for one more
sum_room : (op : Op) (a p : ℕ) (h : List Event) → (totals h).up ≤ 1000000000000000 → (totals h).down ≤ 1000000000000000 → HasRoom op (fold op (sent a p h))
sum_room Sum a p h up down = (omega (arith, ints, sum_low a p h, down), omega (arith, ints, sum_high a p h, up))
sum_room Least a p h up down = tt
sum_room Greatest a p h up down = tt

-- a value for a phase that is there goes to a line
pub has_place : (k : FoldState) (h : List Event) (n p a : ℕ) → k.lines ≡ rows k.ops h n → p < n → a < length k.ops
    → (totals h).up ≤ 1000000000000000 → (totals h).down ≤ 1000000000000000 → HasPlace k p a
has_place k h n p a lines within inside up down =
    let size : length k.lines ≡ n * length k.ops = ap (λ ls. length ls) lines ∙ rows_length (λ q. folds_from q 0 k.ops h) n (length k.ops) (λ q. row_length q 0 k.ops h) in
    let read : get_or k.lines (place_of k p a) blank_line ≡ record { phase = p; acc = a; value = fold (get_or k.ops a Sum) (sent a p h) } =
    ap (λ ls. get_or ls (place_of k p a) blank_line) lines ∙ line_read k.ops h n p a within inside
    in
    record {
      accumulator = inside;
      place = omega (arith, size, mul-add-lt p (length k.ops) a n within inside, mul_comm n (length k.ops));
      room = subst (λ (l : FoldLine). HasRoom (get_or k.ops a Sum) l.value) (sym read) (sum_room (get_or k.ops a Sum) a p h up down);
    }

-- and is there for it
pub lines_sent : (k : FoldState) (h : List Event) (n t p a : ℕ) (v : ℤ) → k.lines ≡ rows k.ops h n → p < n → a < length k.ops → signals t h ≡ p
    → (value_sent p a v k).lines ≡ rows k.ops (Send t a v ∷ h) n
lines_sent k h n t p a v lines within inside at =
    let ops : List Op = k.ops in
    let line : FoldLine = record { phase = p; acc = a; value = fold_with (get_or k.ops a Sum) v (fold (get_or k.ops a Sum) (sent a p h)) } in
    let read : get_or k.lines (place_of k p a) blank_line ≡ record { phase = p; acc = a; value = fold (get_or k.ops a Sum) (sent a p h) } =
    ap (λ ls. get_or ls (place_of k p a) blank_line) lines ∙ line_read k.ops h n p a within inside
    in
    let first : 0 + a ≡ a = omega arith in
    ap (λ (l : FoldLine). set k.lines (place_of k p a) (record l { value = fold_with (get_or k.ops a Sum) v l.value })) read
    ∙ (ap (λ ls. set ls (place_of k p a) (record { phase = p; acc = a; value = fold_with (get_or k.ops a Sum) v (fold (get_or k.ops a Sum) (sent a p h)) })) lines
    ∙ rows_written (λ q. folds_from q 0 k.ops h) (λ q. folds_from q 0 k.ops (Send t a v ∷ h)) n (length k.ops) p a
    (record { phase = p; acc = a; value = fold_with (get_or k.ops a Sum) v (fold (get_or k.ops a Sum) (sent a p h)) })
    (λ q. row_length q 0 k.ops h) within inside
    (sym (row_written t p 0 k.ops v h a a inside first at))
    (λ q other. row_kept t q 0 k.ops a v h (λ same. other (sym same ∙ at))))
