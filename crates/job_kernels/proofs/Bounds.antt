-- What bounds the cells of a stencil.
use Rattle.std.proofs.Common.{ℕ, ◌+◌, ◌≤◌, List, length, get_or, zero, suc, arith}
use Rattle.std.proofs.lemmas.List.FromFn.{get_or-map-range_with_len, length-map-range_with_len}
use Rattle.std.proofs.lemmas.List.{get_or_past}
use Rattle.job_kernels.specs.Stencil.{weighed, cell_before, cell_after, stencil_step, stencil, AtMost}

weighed_at_most : (most left own right : ℕ) → left ≤ most → own ≤ most → right ≤ most → weighed left own right ≤ most
weighed_at_most most left own right l o r = omega (arith, l, o, r)

before_at_most : (most : ℕ) (cells : List ℕ) → AtMost most cells → (i : ℕ) → cell_before cells i ≤ most
before_at_most most cells h zero = omega arith
before_at_most most cells h (suc i) = h i

after_at_most : (most : ℕ) (cells : List ℕ) → AtMost most cells → (i : ℕ) → cell_after cells i ≤ most
after_at_most most cells h i =
    weighed_at_most most (cell_before cells i) (get_or cells i 0) (get_or cells (i + 1) 0)
    (before_at_most most cells h i) (h i) (h (i + 1))

step_at_most : (most : ℕ) (cells : List ℕ) → AtMost most cells → AtMost most (stencil_step cells)
step_at_most most cells h i = grind (arith, after_at_most most cells h i, get_or-map-range_with_len (cell_after cells) 0 (length cells) i i 0, get_or_past (stencil_step cells) i 0, length-map-range_with_len (cell_after cells) 0 (length cells))

pub stays_at_most : (most steps : ℕ) (cells : List ℕ) → AtMost most cells → AtMost most (stencil steps cells)
stays_at_most most zero cells h = h
stays_at_most most (suc steps) cells h = step_at_most most (stencil steps cells) (stays_at_most most steps cells h)
