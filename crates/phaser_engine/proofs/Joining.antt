-- Cells can be joined in any order.
use Rattle.std.proofs.Common.{◌≡◌, ℕ, ◌+◌, ◌==◌, true, false, ◌||◌, not, List, [], ◌∷◌, Option, Some, None, ℤ, refl, ap, sym, ◌∙◌, arith, subst, inl, inr}
use Rattle.std.specs.Int.{int_min, int_max}
use Rattle.std.specs.List.{filter}
use Rattle.std.proofs.lemmas.Bool.{cases_Bool, eq-eqb, eqb-true, ne_eqb, or_left, or_right, false≢true}
use Rattle.std.proofs.lemmas.Int.{ints, int_min_is, int_max_is}
use Rattle.phase_model.proofs.LiveTasks.{has, Apart}
use Rattle.acc_cells.specs.declared.cell.Cell.{Cell}
use Rattle.acc_cells.specs.Cells.{empty_cell, cell_joined, least_joined, greatest_joined}
use Rattle.acc_cells.proofs.Tallies.{joined_nothing}
use Rattle.phaser_engine.proofs.Drops.{others_stay}

least_turned : (o d : Option ℤ) → least_joined o d ≡ least_joined d o
least_turned None None = refl
least_turned None (Some w) = refl
least_turned (Some v) None = refl
least_turned (Some v) (Some w) = ap (λ n. Some n) (omega (arith, ints, int_min_is v w, int_min_is w v))

greatest_turned : (o d : Option ℤ) → greatest_joined o d ≡ greatest_joined d o
greatest_turned None None = refl
greatest_turned None (Some w) = refl
greatest_turned (Some v) None = refl
greatest_turned (Some v) (Some w) = ap (λ n. Some n) (omega (arith, ints, int_max_is v w, int_max_is w v))

least_grouped : (o d e : Option ℤ) → least_joined (least_joined o d) e ≡ least_joined o (least_joined d e)
least_grouped None d e = refl
least_grouped (Some v) None e = refl
least_grouped (Some v) (Some w) None = refl
least_grouped (Some v) (Some w) (Some u) =
    ap (λ n. Some n)
    (omega (
      arith,
      ints,
      int_min_is v w,
      int_min_is (int_min v w) u,
      int_min_is w u,
      int_min_is v (int_min w u),
    ))

greatest_grouped : (o d e : Option ℤ)
    → greatest_joined (greatest_joined o d) e ≡ greatest_joined o (greatest_joined d e)
greatest_grouped None d e = refl
greatest_grouped (Some v) None e = refl
greatest_grouped (Some v) (Some w) None = refl
greatest_grouped (Some v) (Some w) (Some u) =
    ap (λ n. Some n)
    (omega (
      arith,
      ints,
      int_max_is v w,
      int_max_is (int_max v w) u,
      int_max_is w u,
      int_max_is v (int_max w u),
    ))

cell_of : (n m u v d e : ℕ) (l k g j : Option ℤ) → n ≡ m → u ≡ v → d ≡ e → l ≡ k → g ≡ j
    → ◌≡◌ {A = Cell} (record { count = n; up = u; down = d; least = l; greatest = g })
    (record { count = m; up = v; down = e; least = k; greatest = j })
cell_of n m u v d e l k g j a b c x y = cc

pub joined_turned : (c d : Cell) → cell_joined c d ≡ cell_joined d c
joined_turned c d =
    cell_of (c.count + d.count) (d.count + c.count) (c.up + d.up) (d.up + c.up) (c.down + d.down)
    (d.down + c.down)
    (least_joined c.least d.least) (least_joined d.least c.least) (greatest_joined c.greatest d.greatest)
    (greatest_joined d.greatest c.greatest)
    (omega arith) (omega arith) (omega arith) (least_turned c.least d.least)
    (greatest_turned c.greatest d.greatest)

pub joined_grouped : (c d e : Cell) → cell_joined (cell_joined c d) e ≡ cell_joined c (cell_joined d e)
joined_grouped c d e =
    cell_of (c.count + d.count + e.count) (c.count + (d.count + e.count)) (c.up + d.up + e.up)
    (c.up + (d.up + e.up)) (c.down + d.down + e.down) (c.down + (d.down + e.down))
    (least_joined (least_joined c.least d.least) e.least)
    (least_joined c.least (least_joined d.least e.least))
    (greatest_joined (greatest_joined c.greatest d.greatest) e.greatest)
    (greatest_joined c.greatest (greatest_joined d.greatest e.greatest))
    (omega arith) (omega arith) (omega arith) (least_grouped c.least d.least e.least)
    (greatest_grouped c.greatest d.greatest e.greatest)

-- what comes second can come first
pub joined_first : (c d e : Cell) → cell_joined c (cell_joined d e) ≡ cell_joined d (cell_joined c e)
joined_first c d e =
    sym (joined_grouped c d e) ∙ (ap (λ x. cell_joined x e) (joined_turned c d) ∙ joined_grouped d c e)

-- the cells of all tasks of a list, joined
abbrev pub pool : (ℕ → Cell) → List ℕ → Cell
pool f [] = empty_cell
pool f (t ∷ ts) = cell_joined (f t) (pool f ts)

pub pool_same : (f g : ℕ → Cell) (ts : List ℕ) → ((t : ℕ) → has t ts ≡ true → f t ≡ g t)
    → pool f ts ≡ pool g ts
pool_same f g [] same = refl
pool_same f g (t ∷ ts) same =
    let here : f t ≡ g t = same t (or_left (t == t) (has t ts) (eq-eqb t t refl)) in
    let rest : pool f ts ≡ pool g ts = pool_same f g ts (λ u k. same u (or_right (t == u) (has u ts) k)) in
    ap (λ c. cell_joined c (pool f ts)) here ∙ ap (λ c. cell_joined (g t) c) rest

pub pool_empty : (f : ℕ → Cell) (ts : List ℕ) → ((t : ℕ) → has t ts ≡ true → f t ≡ empty_cell)
    → pool f ts ≡ empty_cell
pool_empty f [] none = refl
pool_empty f (t ∷ ts) none =
    let here : f t ≡ empty_cell = none t (or_left (t == t) (has t ts) (eq-eqb t t refl)) in
    let rest : pool f ts ≡ empty_cell = pool_empty f ts (λ u k. none u (or_right (t == u) (has u ts) k)) in
    ap (λ c. cell_joined c (pool f ts)) here ∙ (joined_nothing (pool f ts) ∙ rest)

-- a list without t
abbrev pub without : ℕ → List ℕ → List ℕ
without t ts = filter (λ u. not (t == u)) ts

-- one task's cell can be taken out of the pool
pub pool_take : (f : ℕ → Cell) (t : ℕ) (ts : List ℕ) → Apart ts → has t ts ≡ true
    → pool f ts ≡ cell_joined (f t) (pool f (without t ts))
pool_take f t [] a k = absurd (false≢true k)
pool_take f t (u ∷ ts) a k =
    elim (cases_Bool (u == t)) [
      | inl e ↦
          let same : u ≡ t = eqb-true u t e in
          let itself : (t == u) ≡ true = eq-eqb t u (sym same) in
          let gone : without t ts ≡ ts = others_stay t ts (subst (λ v. has v ts ≡ false) same a.0) in
          rw itself
          (ap (λ v. cell_joined (f v) (pool f ts)) same
          ∙ ap (λ us. cell_joined (f t) (pool f us)) (sym gone))
      | inr e ↦
          let other : (t == u) ≡ false = ne_eqb t u (λ d. false≢true (sym e ∙ eq-eqb u t (sym d))) in
          let rest : pool f ts ≡ cell_joined (f t) (pool f (without t ts)) =
          pool_take f t ts a.1 (ap (λ b. b || has t ts) (sym e) ∙ k) in
          rw other (ap (λ c. cell_joined (f u) c) rest ∙ joined_first (f u) (f t) (pool f (without t ts)))
    ]
