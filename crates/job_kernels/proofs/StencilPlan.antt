-- The plan of a stencil: what its root and its cells' tasks do next, and what they have left after that.
use Rattle.std.proofs.Common.{ℕ, zero, suc, ◌+◌, ◌-◌, ◌≡◌, ◌≤◌, ◌<◌, ◌==◌, ◌&&◌, ◌∙◌, inl, inr, Bool, true, false, cond, List, [], ◌∷◌, ◌++◌, length, map, flat_map, replicate, min, nat_lt, refl, sym, ap, subst, add-one, arith}
use Rattle.std.specs.List.{range_with_len, list_any}
use Rattle.std.proofs.Math.IntN.{+ℤ_idl}
use Rattle.std.proofs.lemmas.Bool.{eq-eqb, ne_eqb, eqb-true, lt-ltb, le-ltb, ltb-true, or_left, or_right, or_cases, or_parts, or_from, false≢true}
use Rattle.std.proofs.lemmas.List.{get_or_append_left}
use Rattle.phase_modes.specs.declared.reg.Mode.TheVariants.{Wait}
use Rattle.phase_model.specs.declared.op.Op.TheVariants.{Sum}
use Rattle.phase_model.specs.declared.op.Look.TheVariants.{Value}
use Rattle.phase_model.proofs.LiveTasks.{has}
use Rattle.job_script.specs.declared.act.Act.TheVariants as acts
use Rattle.job_script.specs.declared.act.Answer.TheVariants.{Done}
use Rattle.job_kernels.specs.declared.stencil_body.Moment.TheVariants.{Sends}
use Rattle.job_kernels.specs.declared.stencil_body.Role.TheVariants as kinds
use Rattle.job_kernels.specs.declared.stencil_body.StencilBody.{StencilBody}
use Rattle.job_kernels.specs.Stencil.{AtMost}
use Rattle.job_kernels.specs.Tasks.{Does, Line, GoesBy, pair_on}
use Rattle.job_kernels.specs.StencilTasks.{greatest, left_of, right_of, neighbours, cell_task, phasers_of, stencil_next}
use Rattle.job_kernels.specs.StencilLines.{cells_at, sending, looking, step_lines, RootSpawnsCells}
use Rattle.job_kernels.proofs.StencilRuns.{cell, cells_go_by_stencil}
use Rattle.job_kernels.proofs.Numbers.{le_self, next_not_zero, next_on, none_below_zero, not_its_next, without_zero, zero_least}
use Rattle.job_kernels.proofs.Joining.{HasOwn, is_weak_for, regs_of}
use Rattle.job_kernels.proofs.Plans.{Shape, TaskStep, Starts, Rooted, Plan, root_goes}

-- ---- the root

-- the root after so many phasers and children, with the cells in a row of sixteen
abbrev pub root_body : List ℕ → ℕ → ℕ → ℕ → StencilBody
root_body first steps m s = record {
  role = kinds.Root (record {
    first = first ++ replicate (16 - length first) 0;
    cells = length first;
    steps = steps;
    made = m;
    spawned = s;
  });
}

-- the places behind the row hold nothing that a cell begins with
cell_task_padded : (first : List ℕ) (steps i : ℕ) → i < length first
    → cell_task (first ++ replicate (16 - length first) 0) (length first) steps i
    ≡ cell_task first (length first) steps i
cell_task_padded first steps i h =
    ap (λ v. cell i (length first) steps (min v greatest) 0 Sends)
    (get_or_append_left first (replicate (16 - length first) 0) 0 i h)

-- ---- the task of a cell

-- what is left to a task that has begun k turns and has r of them left: where it hasn't sent its value of
-- phase k, it looks at these cells first
abbrev pub left : List ℕ → ℕ → Bool → ℕ → ℕ → List ℕ → List (Line StencilBody)
left first i true k r js = flat_map (step_lines (cells_at first) (length first) i) (range_with_len k r)
left first i false k r js =
    (map (looking (cells_at first) (k - 1)) js ++ sending (cells_at first) k i ∷ [])
    ++ flat_map (step_lines (cells_at first) (length first) i) (range_with_len k r)

-- the task of cell i, that has begun k turns and made so many sends
pub record CellAt (first : List ℕ) (steps i k made : ℕ) (d : Does StencilBody) : Type 0 where
  pub rest : ℕ
  pub looks : List ℕ
  pub is_sent : Bool
  pub sum : k + rest ≡ steps
  pub count : made ≡ cond is_sent (k + 1) k
  pub goes : GoesBy stencil_next d (left first i is_sent k rest looks)
  pub among : (j : ℕ) → has j looks ≡ true → has j (neighbours (length first) i) ≡ true
  pub none : k ≡ 0 → looks ≡ []

-- the tasks of a stencil, place by place
abbrev pub stencil_shape : List ℕ → ℕ → Shape
stencil_shape first steps = record {
  Body = StencilBody;
  next = stencil_next;
  op = Sum;
  phasers = length first;
  children = length first;
  root = root_body first steps;
  task = cell_task first (length first) steps;
  pairs = phasers_of (length first);
  out = λ i p. cells_at first p i ∷ [];
  seen = λ i p. Value (cells_at first p i);
  phases = λ i. steps + 1;
  turns_of = λ i. steps;
  At = CellAt first steps;
}

-- the root goes by its counts
rooted : (first : List ℕ) (steps : ℕ) → Rooted (stencil_shape first steps)
rooted first steps =
    record {
      makes = λ x m n lt. rw (lt-ltb m (length first) lt) refl;
      spawns = λ x m n all lt. rw (le-ltb m (length first) all, lt-ltb n (length first) lt)
          (ap (λ b. (acts.Async b (phasers_of (length first) n), root_body first steps m (n + 1)))
          (cell_task_padded first steps n lt));
      ends = λ x m n all full. rw (le-ltb m (length first) all, le-ltb n (length first) full) refl;
    }

-- so it spawns the cells
pub root_spawns_cells : RootSpawnsCells
root_spawns_cells first steps h = root_goes (stencil_shape first steps) (rooted first steps)
    (λ i. acts.Async (cell_task first (length first) steps i) (phasers_of (length first) i)) (λ i. refl)

-- ---- the phasers of a cell's task

-- on the phaser of its left neighbour it only waits
no_left : (i : ℕ) (c : ℕ) → list_any (is_weak_for i c) (regs_of 0 c
    (map (λ j. pair_on j Wait) (left_of i))) ≡ false
no_left zero c = refl
no_left (suc i) c = rw (ne_eqb i (suc i) (λ e. not_its_next i e)) refl

-- and on that of its right one
no_right : (n i c : ℕ) → list_any (is_weak_for i c) (regs_of 0 c
    (map (λ j. pair_on j Wait) (right_of n i))) ≡ false
no_right n i c = by_test (nat_lt (i + 1) n)
  where
    no_more : (i : ℕ) → i + 1 ≡ i → ⊥
    no_more i e = omega arith

    by_test : (b : Bool)
        → list_any (is_weak_for i c)
        (regs_of 0 c (map (λ j. pair_on j Wait) (cond b ((i + 1) ∷ []) []))) ≡ false
    by_test true = rw (ne_eqb (i + 1) i (λ e. no_more i e)) refl
    by_test false = refl

-- so on both
none_of_both : (i c : ℕ) (xs ys : List ℕ)
    → list_any (is_weak_for i c) (regs_of 0 c (map (λ j. pair_on j Wait) xs)) ≡ false
    → list_any (is_weak_for i c) (regs_of 0 c (map (λ j. pair_on j Wait) ys)) ≡ false
    → list_any (is_weak_for i c) (regs_of 0 c (map (λ j. pair_on j Wait) (xs ++ ys))) ≡ false
none_of_both i c [] ys a b = b
none_of_both i c (x ∷ xs) ys a b =
    let d =
    or_parts ((x == i && c == c) && true)
    (list_any (is_weak_for i c) (regs_of 0 c (map (λ j. pair_on j Wait) xs))) a in
    or_from ((x == i && c == c) && true)
    (list_any (is_weak_for i c) (regs_of 0 c (map (λ j. pair_on j Wait) (xs ++ ys)))) d.0
    (none_of_both i c xs ys d.1 b)

-- a cell's task can signal on the phaser of its place
has_own : (n i : ℕ) → HasOwn (phasers_of n i) i
has_own n i =
    record {
      there = λ c. rw (eq-eqb i i refl, eq-eqb c c refl) refl;
      strong = λ c. rw (eq-eqb i i refl, eq-eqb c c refl)
          (none_of_both i c (left_of i) (right_of n i) (no_left i c) (no_right n i c));
    }

-- neighbours are in the row
neighbours_below : (n i j : ℕ) → i < n → has j (neighbours n i) ≡ true → j < n
neighbours_below n i j lt h = by_left i lt h
  where
    of_right : (i : ℕ) → has j (right_of n i) ≡ true → j < n
    of_right i g = by_test (nat_lt (i + 1) n) refl g
      where
        by_test : (b : Bool) → nat_lt (i + 1) n ≡ b → has j (cond b ((i + 1) ∷ []) []) ≡ true → j < n
        by_test true e g =
            elim (or_cases (i + 1 == j) false g) [
              | inl s ↦ subst (λ x. x < n) (eqb-true (i + 1) j s) (ltb-true (i + 1) n e)
              | inr s ↦ absurd (false≢true s)
            ]
        by_test false e g = absurd (false≢true g)

    less : (i n : ℕ) → suc i < n → i < n
    less i n h = omega arith

    by_left : (i : ℕ) → i < n → has j (neighbours n i) ≡ true → j < n
    by_left zero lt g = of_right zero g
    by_left (suc i) lt g =
        elim (or_cases (i == j) (has j (right_of n (suc i))) g) [
          | inl s ↦ subst (λ x. x < n) (eqb-true i j s) (less i n lt)
          | inr s ↦ of_right (suc i) s
        ]

-- ---- what a cell's task does next

module _ (first : List ℕ) (steps i k done : ℕ) (d : Does StencilBody) (lt : i < length first) where
  -- a look comes after a turn
  not_first : (j : ℕ) (js : List ℕ) → (k ≡ 0 → j ∷ js ≡ []) → k ≡ (k - 1) + 1
  not_first j js none = one_more k (λ z. some_none (none z))
    where
      some_none : j ∷ js ≡ [] → ⊥
      some_none h = cc

      one_more : (x : ℕ) → (x ≡ 0 → ⊥) → x ≡ (x - 1) + 1
      one_more zero n = absurd (n refl)
      one_more (suc x) n = omega arith

  -- by what is left
  step_of : (b : Bool) (r : ℕ) (js : List ℕ) → k + r ≡ steps → done ≡ cond b (k + 1) k
      → GoesBy stencil_next d (left first i b k r js)
      → ((j : ℕ) → has j js ≡ true → has j (neighbours (length first) i) ≡ true)
      → (k ≡ 0 → js ≡ []) → TaskStep (stencil_shape first steps) i k done d
  step_of false r [] sum count goes among none =
      TaskStep.to_send (cells_at first k i) goes.0 refl count (room k r steps sum) (record {
        rest = r;
        looks = [];
        is_sent = true;
        sum = sum;
        count = refl;
        goes = goes.1;
        among = among;
        none = none;
      })
    where
      room : (k r n : ℕ) → k + r ≡ n → k + 1 ≤ n + 1
      room k r n h = omega arith
  step_of false r (j ∷ js) sum count goes among none =
      let turned : k ≡ (k - 1) + 1 = not_first j js none in
      TaskStep.to_look j (k - 1) done goes.0
      (neighbours_below (length first) i j lt (among j (or_left (j == j) (has j js) (eq-eqb j j refl))))
      turned
      (within k r steps k sum refl) (at_least k done count) (within k r steps done sum count) (inl refl)
      (record {
        rest = r;
        looks = js;
        is_sent = false;
        sum = sum;
        count = count;
        goes = goes.1;
        among = λ x h. among x (or_right (j == x) (has x js) h);
        none = λ z. absurd (next_not_zero (k - 1) (sym turned ∙ z));
      })
    where
      within : (k r n x : ℕ) → k + r ≡ n → x ≡ k → x ≤ n + 1
      within k r n x h e = omega arith

      at_least : (k x : ℕ) → x ≡ k → k ≤ x
      at_least k x e = omega arith
  step_of true zero js sum count goes among none =
      TaskStep.to_end goes (over k steps done (without_zero k steps sum) count) (without_zero k steps sum)
    where
      over : (k n x : ℕ) → k ≡ n → x ≡ k + 1 → n + 1 ≤ x
      over k n x a b = omega arith
  step_of true (suc r) js sum count goes among none =
      let nb = neighbours (length first) i in
      let rest = flat_map (step_lines (cells_at first) (length first) i) (range_with_len (k + 1) r) in
      let P : ℕ → ℕ → Type 0 =
      λ x y. GoesBy stencil_next (stencil_next Done d.1)
      ((map (looking (cells_at first) x) nb ++ sending (cells_at first) y i ∷ []) ++ rest) in
      let here : P k (suc k) = goes.1 in
      let there : P ((k + 1) - 1) (k + 1) =
      subst (λ y. P ((k + 1) - 1) y) (sym (add-one k)) (subst (λ x. P x (suc k)) (back k) here) in
      TaskStep.to_turn goes.0 (subst (λ x. k + 1 ≤ x) (sym count) (le_self (k + 1))) (record {
        rest = r;
        looks = nb;
        is_sent = false;
        sum = next_on k r steps sum;
        count = count;
        goes = there;
        among = λ j h. h;
        none = λ z. absurd (next_not_zero k z);
      })
    where
      back : (x : ℕ) → x ≡ (x + 1) - 1
      back x = omega arith

  -- so by where it stands
  cell_step : CellAt first steps i k done d → TaskStep (stencil_shape first steps) i k done d
  cell_step c = step_of c.is_sent c.rest c.looks c.sum c.count c.goes c.among c.none

-- the task of a cell at its start
cell_starts : (first : List ℕ) (steps : ℕ) → AtMost greatest first → (i : ℕ) → i < length first
    → Starts (stencil_shape first steps) i
cell_starts first steps h i lt =
    record {
      done = 0;
      at = record {
        rest = steps;
        looks = [];
        is_sent = false;
        sum = omega arith;
        count = refl;
        goes = cells_go_by_stencil first steps i h lt;
        among = λ j x. absurd (false≢true x);
        none = λ z. refl;
      };
      most = zero_least (steps + 1);
      none = λ p below. absurd (none_below_zero p below);
    }

-- the plan of a stencil whose cells are small enough
pub stencil_plan : (first : List ℕ) (steps : ℕ) → AtMost greatest first → Plan (stencil_shape first steps)
stencil_plan first steps small =
    record {
      rooted = rooted first steps;
      starts = cell_starts first steps small;
      steps = λ i k done d lt at. cell_step first steps i k done d lt at;
      enough = le_self (length first);
      own = λ i lt. has_own (length first) i;
      folds = λ i p lt. ap (λ y. Value y) (+ℤ_idl (cells_at first p i));
      silent = λ i p far lt. absurd (apart i (length first) far lt);
    }
  where
    apart : (x y : ℕ) → y ≤ x → x < y → ⊥
    apart x y a b = omega arith
