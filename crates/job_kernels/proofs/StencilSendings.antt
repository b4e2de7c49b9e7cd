-- Whatever the tasks of a stencil send, it is the stencil, where each sees what was sent.
use Rattle.std.proofs.Common.{ℕ, ℤ, zero, suc, pos, ◌+◌, ◌-◌, ◌≡◌, ◌≤◌, ◌<◌, ◌∙◌, min, Bool, true, false, if◌then◌else◌, List, [], ◌∷◌, ◌++◌, length, map, flat_map, get_or, nat_lt, refl, sym, ap, subst, add-one, arith}
use Rattle.std.proofs.Math.Nat.{min-eq_left}
use Rattle.std.proofs.lemmas.Bool.{ltb-true}
use Rattle.std.specs.List.{range_with_len}
use Rattle.phase_model.specs.declared.op.Look.TheVariants.{Value}
use Rattle.job_script.specs.declared.act.Act.TheVariants.{Send, Look}
use Rattle.job_script.specs.declared.act.Answer.TheVariants.{Done, Saw}
use Rattle.job_kernels.specs.declared.stencil_body.Moment.{Moment}
use Rattle.job_kernels.specs.declared.stencil_body.Moment.TheVariants.{Sends, Turns, LooksLeft, LooksRight, Weighs}
use Rattle.job_kernels.specs.declared.stencil_body.Role.TheVariants as kinds
use Rattle.job_kernels.specs.declared.stencil_body.StencilBody.{StencilBody}
use Rattle.job_kernels.specs.Stencil.{weighed, stencil, AtMost}
use Rattle.job_kernels.specs.Tasks.{value_of, Line}
use Rattle.job_kernels.specs.StencilTasks.{greatest, looks_right, right_of, stencil_next}
use Rattle.job_kernels.specs.StencilLines.{cells_at, step_lines, CellGoesBy}
use Rattle.job_kernels.proofs.Bounds.{stays_at_most}
use Rattle.job_kernels.proofs.StencilRuns.{value-small, cell, Goes, next_value}

-- what is sent is what the task holds
back_send : (i n steps x v l : ℕ) (w : ℤ) (lines : List (Line StencilBody)) → x ≡ v → v ≤ greatest →
    Goes (stencil_next Done (cell i n steps x l Sends)) ((Send i 0 w, Done) ∷ lines) →
    (w ≡ pos v) × Goes (stencil_next Done (cell i n steps v l Turns)) lines
back_send i n steps x v l w lines e small goes =
    let P : ℕ → Type 0 = λ y. Goes (stencil_next Done (cell i n steps y l Sends)) ((Send i 0 w, Done) ∷ lines) in
    let held : P v = subst P e goes in
    let least : min v greatest ≡ v = min-eq_left small in
    let value : pos (min v greatest) ≡ w = cc held.0 in
    (sym value ∙ ap pos least, held.1)

-- from the look to the right on
back_right : (b : Bool) (m : Moment) (values : List ℕ) (i n r steps own l v : ℕ) (x : ℕ → ℤ) (w : ℤ) (lines : List (Line StencilBody)) →
    weighed l own (if b then get_or values r 0 else 0) ≡ v → v ≤ greatest → get_or values r 0 ≤ greatest →
    (b ≡ true → x r ≡ pos (get_or values r 0)) →
    let does = looks_right (if b then r ∷ [] else []) (record { place = i; cells = n; steps = steps; value = own; left = l; moment = m }) in
    Goes (does.0, record { role = kinds.Cell does.1 })
    ((map (λ j. (Look j 0, Saw (Value (x j)))) (if b then r ∷ [] else []) ++ (Send i 0 w, Done) ∷ []) ++ lines) →
    (w ≡ pos v) × Goes (stencil_next Done (cell i n steps v l Turns)) lines
back_right true m values i n r steps own l v x w lines e small h same goes =
    let P : ℤ → Type 0 = λ z. Goes (stencil_next (Saw (Value z)) (cell i n steps own l Weighs)) ((Send i 0 w, Done) ∷ lines) in
    let seen : P (pos (get_or values r 0)) = subst P (same refl) goes.1 in
    back_send i n steps (weighed l own (value_of greatest (Saw (Value (pos (get_or values r 0)))))) v l w lines (ap (weighed l own) (value-small (get_or values r 0) h) ∙ e) small seen
back_right false m values i n r steps own l v x w lines e small h same goes =
    back_send i n steps (weighed l own 0) v l w lines e small goes

-- cell i has come to phase t with k steps left
record Reached (first : List ℕ) (sent : ℕ → ℕ → ℤ) (i t k : ℕ) : Type 0 where
  sends : sent t i ≡ cells_at first t i
  left : ℕ
  goes : Goes (stencil_next Done (cell i (length first) k (get_or (stencil t first) i 0) left Turns))
      (flat_map (step_lines sent (length first) i) (range_with_len t k))

-- the lines behind a step begin one further
further : (first : List ℕ) (sent : ℕ → ℕ → ℤ) (i t k v l : ℕ) →
    Goes (stencil_next Done (cell i (length first) k v l Turns)) (flat_map (step_lines sent (length first) i) (range_with_len (t + 1) k)) →
    Goes (stencil_next Done (cell i (length first) k v l Turns)) (flat_map (step_lines sent (length first) i) (range_with_len (suc t) k))
further first sent i t k v l goes =
    let P : ℕ → Type 0 = λ u. Goes (stencil_next Done (cell i (length first) k v l Turns)) (flat_map (step_lines sent (length first) i) (range_with_len u k)) in
    subst P (add-one t) goes

-- a step of cell i, where all cells have come so far
next_step : (first : List ℕ) (sent : ℕ → ℕ → ℤ) (t k i : ℕ) → AtMost greatest first →
    ((j : ℕ) → j < length first → sent t j ≡ cells_at first t j) → i < length first →
    Reached first sent i t (suc k) → Reached first sent i (suc t) k
next_step first sent t k zero h so lt at =
    let values : List ℕ = stencil t first in
    let n : ℕ = length first in
    let v : ℕ = get_or (stencil (suc t) first) 0 0 in
    let lines : List (Line StencilBody) = flat_map (step_lines sent n 0) (range_with_len (t + 1) k) in
    let value = next_value first t 0 0 lt refl in
    let after : (sent (suc t) 0 ≡ pos v) × Goes (stencil_next Done (cell 0 n k v 0 Turns)) lines =
    back_right (nat_lt (0 + 1) n) LooksLeft values 0 n (0 + 1) k (get_or values 0 0) 0 v (sent t) (sent (suc t) 0) lines value
    (stays_at_most greatest (suc t) first h 0) (stays_at_most greatest t first h (0 + 1))
    (λ there. so (0 + 1) (ltb-true (0 + 1) n there)) at.goes.1 in
    record { sends = after.0; left = 0; goes = further first sent 0 t k v 0 after.1 }
next_step first sent t k (suc j) h so lt at =
    let i : ℕ = suc j in
    let values : List ℕ = stencil t first in
    let n : ℕ = length first in
    let v : ℕ = get_or (stencil (suc t) first) i 0 in
    let l : ℕ = value_of greatest (Saw (Value (pos (get_or values j 0)))) in
    let lines : List (Line StencilBody) = flat_map (step_lines sent n i) (range_with_len (t + 1) k) in
    let value =
    next_value first t i l lt (value-small (get_or values j 0) (stays_at_most greatest t first h j)) in
    let P : ℤ → Type 0 = λ z. Goes (stencil_next (Saw (Value z)) (cell i n k (get_or values i 0) at.left LooksRight))
    ((map (λ y. (Look y 0, Saw (Value (sent t y)))) (right_of n i) ++ (Send i 0 (sent (suc t) i), Done) ∷ []) ++ lines) in
    let seen : P (pos (get_or values j 0)) = subst P (so j (omega arith)) at.goes.1.1 in
    let after : (sent (suc t) i ≡ pos v) × Goes (stencil_next Done (cell i n k v l Turns)) lines =
    back_right (nat_lt (i + 1) n) LooksRight values i n (i + 1) k (get_or values i 0) l v (sent t) (sent (suc t) i) lines value
    (stays_at_most greatest (suc t) first h i) (stays_at_most greatest t first h (i + 1))
    (λ there. so (i + 1) (ltb-true (i + 1) n there)) seen in
    record { sends = after.0; left = l; goes = further first sent i t k v l after.1 }

reached : (first : List ℕ) (steps : ℕ) (sent : ℕ → ℕ → ℤ) → AtMost greatest first →
    ((i : ℕ) → i < length first → CellGoesBy sent first steps i) →
    (t k i : ℕ) → t + k ≡ steps → i < length first → Reached first sent i t k
reached first steps sent h all zero k i e lt =
    let n : ℕ = length first in
    let v : ℕ = get_or first i 0 in
    let same : steps ≡ k = omega (arith, e) in
    let P : ℕ → Type 0 = λ u. Goes (stencil_next Done (cell i n u v 0 Turns)) (flat_map (step_lines sent n i) (range_with_len 0 u)) in
    let begun : (sent 0 i ≡ pos v) × P steps =
    back_send i n steps (min v greatest) v 0 (sent 0 i) (flat_map (step_lines sent n i) (range_with_len 0 steps)) (min-eq_left (h i)) (h i) (all i lt) in
    record { sends = begun.0; left = 0; goes = subst P same begun.1 }
reached first steps sent h all (suc t) k i e lt =
    let before : (j : ℕ) → j < length first → Reached first sent j t (suc k) = λ j below. reached first steps sent h all t (suc k) j (omega (arith, e)) below in
    next_step first sent t k i h (λ j below. (before j below).sends) lt (before i lt)

pub cells_send_stencil : (first : List ℕ) (steps : ℕ) (sent : ℕ → ℕ → ℤ) → AtMost greatest first →
    ((i : ℕ) → i < length first → CellGoesBy sent first steps i) →
    (t i : ℕ) → t ≤ steps → i < length first → sent t i ≡ cells_at first t i
cells_send_stencil first steps sent h all t i le lt = (reached first steps sent h all t (steps - t) i (omega (arith, le)) lt).sends
