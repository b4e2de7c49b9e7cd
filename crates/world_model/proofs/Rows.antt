-- A list of rows of one length, one for each number below n: a row more, and one element of one row.
use Rattle.std.proofs.Common.{mul_comm, ◌≡◌, ℕ, zero, suc, ◌+◌, ◌-◌, ◌*◌, ◌<◌, List, [], ◌∷◌, ◌++◌, length, get_or, set, refl, ap, sym, subst, ◌∙◌, arith, inl, inr}
use Rattle.std.specs.List.{flat_map, range_with_len}
use Rattle.std.proofs.lemmas.Bool.{cases_lt}
use Rattle.std.proofs.lemmas.Nat.{mul-add-lt}
use Rattle.std.proofs.lemmas.Grind.{flat_map-append}
use Rattle.std.proofs.lemmas.List.{append-nil, length-append, set-append_left, set-append_right, get_or_append_left, get_or-append_right}
use Rattle.world_model.specs.Report.{below}

range_more : (a n : ℕ) → range_with_len a (suc n) ≡ range_with_len a n ++ (a + n) ∷ []
range_more a zero =
    let same : a ≡ a + 0 = omega arith in
    ap (λ m. m ∷ []) same
range_more a (suc n) =
    let same : a + 1 + n ≡ a + suc n = omega arith in
    ap (λ ms. a ∷ ms) (range_more (a + 1) n ∙ ap (λ m. range_with_len (a + 1) n ++ m ∷ []) same)

-- the numbers below the next number
pub below_more : (n : ℕ) → below (n + 1) ≡ below n ++ n ∷ []
below_more n =
    let next : n + 1 ≡ suc n = omega arith in
    let same : 0 + n ≡ n = omega arith in
    ap (λ m. below m) next ∙ (range_more 0 n ∙ ap (λ m. below n ++ m ∷ []) same)

-- one row more
pub rows_more : {X : Type 0} (f : ℕ → List X) (n : ℕ) → flat_map f (below (n + 1)) ≡ flat_map f (below n) ++ f n
rows_more f n =
    ap (λ ns. flat_map f ns) (below_more n) ∙ (flat_map-append f (below n) (n ∷ []) ∙ ap (λ xs. flat_map f (below n) ++ xs) (append-nil (f n)))

rows_suc : {X : Type 0} (f : ℕ → List X) (n : ℕ) → flat_map f (below (suc n)) ≡ flat_map f (below n) ++ f n
rows_suc f n =
    let next : suc n ≡ n + 1 = omega arith in
    ap (λ m. flat_map f (below m)) next ∙ rows_more f n

-- the same rows
pub rows_agree : {X : Type 0} (f g : ℕ → List X) (n : ℕ) → ((p : ℕ) → p < n → f p ≡ g p) → flat_map f (below n) ≡ flat_map g (below n)
rows_agree f g zero same = refl
rows_agree f g (suc n) same =
    rw (rows_suc f n, rows_suc g n, rows_agree f g n (λ p within. same p (omega (arith, within))), same n (omega arith)) refl

pub rows_length : {X : Type 0} (f : ℕ → List X) (n k : ℕ) → ((p : ℕ) → length (f p) ≡ k) → length (flat_map f (below n)) ≡ n * k
rows_length f zero k long = omega arith
rows_length f (suc n) k long =
    rw (rows_suc f n, length-append (flat_map f (below n)) (f n)) (omega (arith, rows_length f n k long, long n))

-- one element of row p is read
pub rows_read : {X : Type 0} (f : ℕ → List X) (n k p a : ℕ) (d : X) → ((q : ℕ) → length (f q) ≡ k) → p < n → a < k
    → get_or (flat_map f (below n)) (p * k + a) d ≡ get_or (f p) a d
rows_read f zero k p a d long within inside = absurd (omega (arith, within))
rows_read {X} f (suc n) k p a d long within inside =
    let front : List X = flat_map f (below n) in
    let size : length front ≡ n * k = rows_length f n k long in
    elim (cases_lt p n) [
      | inl before ↦
          let place : p * k + a < length front = omega (arith, size, mul-add-lt p k a n before inside, mul_comm n k) in
          rw (rows_suc f n, get_or_append_left front (f n) d (p * k + a) place) (rows_read f n k p a d long before inside)
      | inr last ↦
          let same : p ≡ n = omega (arith, last, within) in
          let many : p * k ≡ n * k = ap (λ m. m * k) same in
          let rest : p * k + a - n * k ≡ a = omega (arith, many) in
          rw (rows_suc f n, get_or-append_right front (f n) (n * k) (p * k + a) d size (omega (arith, many)), rest)
          (ap (λ m. get_or (f m) a d) (sym same))
    ]

-- one element of row p is written
pub rows_written : {X : Type 0} (f g : ℕ → List X) (n k p a : ℕ) (x : X) → ((q : ℕ) → length (f q) ≡ k) → p < n → a < k
    → g p ≡ set (f p) a x → ((q : ℕ) → (q ≡ p → ⊥) → g q ≡ f q)
    → set (flat_map f (below n)) (p * k + a) x ≡ flat_map g (below n)
rows_written f g zero k p a x long within inside here there = absurd (omega (arith, within))
rows_written {X} f g (suc n) k p a x long within inside here there =
    let front : List X = flat_map f (below n) in
    let size : length front ≡ n * k = rows_length f n k long in
    elim (cases_lt p n) [
      | inl before ↦
          let place : p * k + a < length front = omega (arith, size, mul-add-lt p k a n before inside, mul_comm n k) in
          let rest : set front (p * k + a) x ≡ flat_map g (below n) = rows_written f g n k p a x long before inside here there in
          let last : g n ≡ f n = there n (λ same. omega (arith, same, before)) in
          rw (rows_suc f n, rows_suc g n, set-append_left front (f n) (p * k + a) x place, rest, last) refl
      | inr last ↦
          let same : p ≡ n = omega (arith, last, within) in
          let many : p * k ≡ n * k = ap (λ m. m * k) same in
          let rest : p * k + a - n * k ≡ a = omega (arith, many) in
          let others : front ≡ flat_map g (below n) = rows_agree f g n (λ q before. sym (there q (λ e. omega (arith, e, before, same)))) in
          let row : set (f n) a x ≡ g n = sym (subst (λ m. g m ≡ set (f m) a x) same here) in
          rw (rows_suc f n, rows_suc g n, set-append_right front (f n) (n * k) (p * k + a) x size (omega (arith, many)), rest, row)
          (ap (λ xs. xs ++ g n) others)
    ]
