-- The least number that isn't in use, found one number after the other.
use Rattle.std.proofs.Common.{◌≡◌, ℕ, zero, suc, ◌+◌, ◌<◌, Bool, true, false, not, cond, List, [], ◌∷◌, refl, sym, ap, subst, ◌∙◌, arith}
use Rattle.std.specs.Prelude.{filter, slice_index_or}
use Rattle.std.specs.List.{range_with_len}
use Rattle.world_model.specs.Report.{below}
use Rattle.world_model.specs.Drawing.{least_unused}

-- of a range none passes: neither its first number, nor one of the others
none_parts : (p : ℕ → Bool) (a : ℕ) (xs : List ℕ) → filter p (a ∷ xs) ≡ [] → (p a ≡ false) × (filter p xs ≡ [])
none_parts p a xs e = split (p a) refl e
  where
    split : (b : Bool) → p a ≡ b → cond b (a ∷ filter p xs) (filter p xs) ≡ [] → (p a ≡ false) × (filter p xs ≡ [])
    split true k h = absurd cc
    split false k h = (k, h)

more_from : (p : ℕ → Bool) (a k : ℕ) → filter p (range_with_len a k) ≡ [] → p (a + k) ≡ false → filter p (range_with_len a (suc k)) ≡ []
more_from p a zero none next =
    let here : p a ≡ false = subst (λ n. p n ≡ false) (omega arith) next in
    rw here refl
more_from p a (suc k) none next =
    let parts = none_parts p a (range_with_len (a + 1) k) none in
    let rest : filter p (range_with_len (a + 1) (suc k)) ≡ [] = more_from p (a + 1) k parts.1 (subst (λ n. p n ≡ false) (omega arith) next) in
    rw parts.0 rest

first_from : (p : ℕ → Bool) (a k n d : ℕ) → k < n → filter p (range_with_len a k) ≡ [] → p (a + k) ≡ true → slice_index_or (filter p (range_with_len a n)) 0 d ≡ a + k
first_from p a k zero d within none here = omega (arith, within)
first_from p a zero (suc n) d within none here =
    let passes : p a ≡ true = subst (λ m. p m ≡ true) (omega arith) here in
    let same : a ≡ a + 0 = omega arith in
    rw passes same
first_from p a (suc k) (suc n) d within none here =
    let parts = none_parts p a (range_with_len (a + 1) k) none in
    let rest : slice_index_or (filter p (range_with_len (a + 1) n)) 0 d ≡ a + 1 + k =
    first_from p (a + 1) k n d (omega (arith, within)) parts.1 (subst (λ m. p m ≡ true) (omega arith) here)
    in
    let same : a + 1 + k ≡ a + suc k = omega arith in
    rw parts.0 (rest ∙ same)

-- where each number below i is in use and i isn't, i is the least
pub least_found : (used : ℕ → Bool) (i limit : ℕ) → i < limit → filter (λ n. not (used n)) (below i) ≡ [] → used i ≡ false → i ≡ least_unused used limit
least_found used i limit within none free =
    let here : not (used (0 + i)) ≡ true = subst (λ n. not (used n) ≡ true) (omega arith) (ap (λ b. not b) free) in
    let zero_more : 0 + i ≡ i = omega arith in
    sym (first_from (λ n. not (used n)) 0 i limit limit within none here ∙ zero_more)

-- where i is in use too, none below i + 1 isn't
pub least_later : (used : ℕ → Bool) (i : ℕ) → filter (λ n. not (used n)) (below i) ≡ [] → used i ≡ true → filter (λ n. not (used n)) (below (i + 1)) ≡ []
least_later used i none taken =
    let here : not (used (0 + i)) ≡ false = subst (λ n. not (used n) ≡ false) (omega arith) (ap (λ b. not b) taken) in
    let next : suc i ≡ i + 1 = omega arith in
    subst (λ n. filter (λ m. not (used m)) (below n) ≡ []) next (more_from (λ n. not (used n)) 0 i none here)

-- where all are in use, it is the limit
pub least_none : (used : ℕ → Bool) (limit : ℕ) → filter (λ n. not (used n)) (below limit) ≡ [] → limit ≡ least_unused used limit
least_none used limit none = rw none refl

-- two ways to say which are in use
same_left : (p q : ℕ → Bool) (xs : List ℕ) → ((n : ℕ) → p n ≡ q n) → filter (λ n. not (p n)) xs ≡ filter (λ n. not (q n)) xs
same_left p q [] e = refl
same_left p q (x ∷ xs) e =
    let rest : filter (λ n. not (p n)) xs ≡ filter (λ n. not (q n)) xs = same_left p q xs e in
    rw (e x) (ap (λ ys. cond (not (q x)) (x ∷ ys) ys) rest)

pub least_same : (p q : ℕ → Bool) (limit : ℕ) → ((n : ℕ) → p n ≡ q n) → least_unused p limit ≡ least_unused q limit
least_same p q limit e = ap (λ ys. slice_index_or ys 0 limit) (same_left p q (below limit) e)
