-- The tasks of a stencil go by it.
use Rattle.std.proofs.Common.{ℕ, zero, suc, pos, ◌+◌, ◌≡◌, ◌≤◌, ◌<◌, ◌∙◌, min, Bool, true, false, if◌then◌else◌, List, [], ◌∷◌, ◌++◌, length, map, flat_map, get_or, nat_lt, refl, sym, ap, subst, add-one, arith}
use Rattle.std.proofs.Math.Nat.{min-eq_left}
use Rattle.std.proofs.lemmas.Bool.{le-leb, ltb-false}
use Rattle.std.specs.List.{range_with_len}
use Rattle.std.proofs.lemmas.List.{get_or_past}
use Rattle.std.proofs.lemmas.List.FromFn.{get_or-map-range_with_len, length-map-range_with_len}
use Rattle.phase_model.specs.declared.op.Look.TheVariants.{Value}
use Rattle.job_script.specs.declared.act.Act.TheVariants.{Send, Look}
use Rattle.job_script.specs.declared.act.Answer.TheVariants.{Started, Done, Saw}
use Rattle.job_kernels.specs.declared.stencil_body.Moment.{Moment}
use Rattle.job_kernels.specs.declared.stencil_body.Moment.TheVariants.{Sends, Turns, LooksLeft, LooksRight}
use Rattle.job_kernels.specs.declared.stencil_body.Role.TheVariants as kinds
use Rattle.job_kernels.specs.declared.stencil_body.StencilBody.{StencilBody}
use Rattle.job_kernels.specs.Stencil.{weighed, cell_before, cell_after, stencil_step, stencil, AtMost}
use Rattle.job_kernels.specs.Tasks.{value_of, Does, Line, GoesBy}
use Rattle.job_kernels.specs.StencilTasks.{greatest, looks_right, stencil_next, cell_task}
use Rattle.job_kernels.specs.StencilLines.{cells_at, step_lines, cell_lines}
use Rattle.job_kernels.proofs.Bounds.{stays_at_most}

-- what is seen of a number that is small enough
pub value-small : (x : ℕ) → x ≤ greatest → value_of greatest (Saw (Value (pos x))) ≡ x
value-small x h = rw (le-leb x greatest h) refl

-- the task of a cell with these fields
abbrev pub cell : ℕ → ℕ → ℕ → ℕ → ℕ → Moment → StencilBody
cell i n steps v l m = record {
  role = kinds.Cell (record {
    place = i;
    cells = n;
    steps = steps;
    value = v;
    left = l;
    moment = m;
  });
}

abbrev pub Goes : Does StencilBody → List (Line StencilBody) → Type 0
Goes does lines = GoesBy stencil_next does lines

-- it sends what it holds
sends_goes : (i n steps x v l : ℕ) (lines : List (Line StencilBody)) → x ≡ v → v ≤ greatest →
    Goes (stencil_next Done (cell i n steps v l Turns)) lines →
    Goes (stencil_next Done (cell i n steps x l Sends)) ((Send i 0 (pos v), Done) ∷ lines)
sends_goes i n steps x v l lines e h rest =
    let P : ℕ → Type 0 = λ y. Goes (stencil_next Done (cell i n steps y l Sends)) ((Send i 0 (pos v), Done) ∷ lines) in
    subst P (sym e) (ap (λ y. Send i 0 (pos y)) (min-eq_left h), rest)

-- from the look to the right on
right_goes : (b : Bool) (m : Moment) (values : List ℕ) (i n r steps own l v : ℕ) (lines : List (Line StencilBody)) →
    weighed l own (if b then get_or values r 0 else 0) ≡ v → v ≤ greatest → get_or values r 0 ≤ greatest →
    Goes (stencil_next Done (cell i n steps v l Turns)) lines →
    let does = looks_right (if b then r ∷ [] else []) (record { place = i; cells = n; steps = steps; value = own; left = l; moment = m }) in
    Goes (does.0, record { role = kinds.Cell does.1 })
    ((map (λ j. (Look j 0, Saw (Value (pos (get_or values j 0))))) (if b then r ∷ [] else []) ++ (Send i 0 (pos v), Done) ∷ []) ++ lines)
right_goes true m values i n r steps own l v lines e small h rest =
    (refl, sends_goes i n steps (weighed l own (value_of greatest (Saw (Value (pos (get_or values r 0)))))) v l lines (ap (weighed l own) (value-small (get_or values r 0) h) ∙ e) small rest)
right_goes false m values i n r steps own l v lines e small h rest =
    sends_goes i n steps (weighed l own 0) v l lines e small rest

-- the rows keep their length
pub length-stencil : (steps : ℕ) (cells : List ℕ) → length (stencil steps cells) ≡ length cells
length-stencil zero cells = refl
length-stencil (suc steps) cells = length-map-range_with_len (cell_after (stencil steps cells)) 0 (length (stencil steps cells)) ∙ length-stencil steps cells

-- a cell of the next row
step_at : (values : List ℕ) (n i : ℕ) → length values ≡ n → i < n → get_or (stencil_step values) i 0 ≡ cell_after values i
step_at values n i e h = get_or-map-range_with_len (cell_after values) 0 (length values) i i 0 (omega (arith, e)) (omega arith)

-- a neighbour outside the row counts as 0
right_value : (b : Bool) (values : List ℕ) (n r : ℕ) → length values ≡ n → nat_lt r n ≡ b →
    (if b then get_or values r 0 else 0) ≡ get_or values r 0
right_value true values n r e t = refl
right_value false values n r e t = sym (get_or_past values r 0 (omega (arith, e, ltb-false r n t)))

-- what cell i weighs in a step is the cell of the next row, if it holds that on its left
pub next_value : (first : List ℕ) (t i left : ℕ) → i < length first → left ≡ cell_before (stencil t first) i
    → weighed left (get_or (stencil t first) i 0)
    (if nat_lt (i + 1) (length first) then get_or (stencil t first) (i + 1) 0 else 0)
    ≡ get_or (stencil (suc t) first) i 0
next_value first t i left lt is =
    let values : List ℕ = stencil t first in
    rw (
      is,
      right_value (nat_lt (i + 1) (length first)) values (length first) (i + 1)
          (length-stencil t first) refl,
    )
    (sym (step_at values (length first) i (length-stencil t first) lt))

-- from the end of a turn on
go : (first : List ℕ) (i : ℕ) → AtMost greatest first → i < length first → (t k l : ℕ) →
    Goes (stencil_next Done (cell i (length first) k (get_or (stencil t first) i 0) l Turns))
    (flat_map (step_lines (cells_at first) (length first) i) (range_with_len t k))
go first i h lt t zero l = refl
go first zero h lt t (suc k) l =
    let values : List ℕ = stencil t first in
    let n : ℕ = length first in
    let v : ℕ = get_or (stencil (suc t) first) 0 0 in
    let lines : List (Line StencilBody) = flat_map (step_lines (cells_at first) (length first) 0) (range_with_len (t + 1) k) in
    let rest : Goes (stencil_next Done (cell 0 n k v 0 Turns)) lines =
    let P : ℕ → Type 0 = λ u. Goes (stencil_next Done (cell 0 n k v 0 Turns)) (flat_map (step_lines (cells_at first) (length first) 0) (range_with_len u k)) in
    subst P (sym (add-one t)) (go first 0 h lt (suc t) k 0) in
    let value = next_value first t 0 0 lt refl in (
      refl,
      right_goes (nat_lt (0 + 1) n) LooksLeft values 0 n (0 + 1) k (get_or values 0 0) 0 v lines value
          (stays_at_most greatest (suc t) first h 0) (stays_at_most greatest t first h (0 + 1)) rest,
    )
go first (suc j) h lt t (suc k) l =
    let i : ℕ = suc j in
    let values : List ℕ = stencil t first in
    let n : ℕ = length first in
    let v : ℕ = get_or (stencil (suc t) first) i 0 in
    let left : ℕ = value_of greatest (Saw (Value (pos (get_or values j 0)))) in
    let lines : List (Line StencilBody) = flat_map (step_lines (cells_at first) (length first) i) (range_with_len (t + 1) k) in
    let rest : Goes (stencil_next Done (cell i n k v left Turns)) lines =
    let P : ℕ → Type 0 = λ u. Goes (stencil_next Done (cell i n k v left Turns)) (flat_map (step_lines (cells_at first) (length first) i) (range_with_len u k)) in
    subst P (sym (add-one t)) (go first i h lt (suc t) k left) in
    let value =
    next_value first t i left lt (value-small (get_or values j 0) (stays_at_most greatest t first h j)) in (
      refl,
      (
        refl,
        right_goes (nat_lt (i + 1) n) LooksRight values i n (i + 1) k (get_or values i 0) left v lines value
            (stays_at_most greatest (suc t) first h i) (stays_at_most greatest t first h (i + 1)) rest,
      ),
    )

pub cells_go_by_stencil : (first : List ℕ) (steps i : ℕ) → AtMost greatest first → i < length first →
    GoesBy stencil_next (stencil_next Started (cell_task first (length first) steps i)) (cell_lines (cells_at first) (length first) steps i)
cells_go_by_stencil first steps i h lt =
    sends_goes i (length first) steps (min (get_or first i 0) greatest) (get_or first i 0) 0
    (flat_map (step_lines (cells_at first) (length first) i) (range_with_len 0 steps)) (min-eq_left (h i)) (h i) (go first i h lt 0 steps 0)
