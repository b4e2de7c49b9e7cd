-- A task taken out of the names.
use Rattle.std.proofs.Common.{◌≡◌, ℕ, suc, ◌+◌, ◌<◌, ◌≤◌, List, [], ◌∷◌, ◌++◌, nat_eq, length, get_or, take, drop, ap, sym, ◌∙◌, cond, add-one, arith, drop-cons}
use Rattle.std.proofs.lemmas.Bool.{eq-eqb}
use Rattle.std.proofs.lemmas.List.{append-nil}
use Rattle.std.proofs.lemmas.Grind.{common_steps}
use Rattle.std.specs.Map.{remove_entry}

-- the first of these tasks is taken out
first_out : (t : ℕ) (d : ℕ × ℕ) (xs : List (ℕ × ℕ)) → d.0 ≡ t → remove_entry (nat_eq t) (d ∷ xs) ≡ xs
first_out t d xs same = ap (λ b. cond b xs (d ∷ remove_entry (nat_eq t) xs)) (eq-eqb t d.0 (sym same))

-- the task that stands at i, where none before it has its name
pub taken_out : (t i : ℕ) (d : ℕ × ℕ) (xs : List (ℕ × ℕ)) → i < length xs → d ≡ get_or xs i d → d.0 ≡ t
    → remove_entry (nat_eq t) xs ≡ take i xs ++ remove_entry (nat_eq t) (drop i xs)
    → take i xs ++ drop (i + 1) xs ≡ remove_entry (nat_eq t) xs
taken_out t i d xs within here same before =
    let e : drop i xs ≡ d ∷ drop (suc i) xs =
    drop-cons xs i d within ∙ ap (λ x. x ∷ drop (suc i) xs) (sym here) in
    let f : remove_entry (nat_eq t) (drop i xs) ≡ drop (suc i) xs =
    ap (λ ys. remove_entry (nat_eq t) ys) e ∙ first_out t d (drop (suc i) xs) same in
    rw add-one (sym (before ∙ ap (λ ys. take i xs ++ ys) f))

-- no task has the name
pub none_out : (t i : ℕ) (xs : List (ℕ × ℕ)) → length xs ≤ i
    → remove_entry (nat_eq t) xs ≡ take i xs ++ remove_entry (nat_eq t) (drop i xs)
    → xs ≡ remove_entry (nat_eq t) xs
none_out t i xs all before =
    let e : drop i xs ≡ [] = grind (arith, common_steps) in
    let f : take i xs ≡ xs = grind (arith, common_steps) in
    sym (before ∙ ap (λ ys. take i xs ++ remove_entry (nat_eq t) ys) e ∙ append-nil (take i xs) ∙ f)
