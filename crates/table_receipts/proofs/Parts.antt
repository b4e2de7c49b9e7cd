-- The logs of a table's parts, as they are added one after the other.
use Rattle.std.proofs.Common.{◌≡◌, ℕ, suc, ◌+◌, List, [], ◌∷◌, ◌++◌, length, sym, subst, arith}
use Rattle.trace_model.specs.Run.{Entry}
use Rattle.table_receipts.specs.Logs.{Sight}
use Rattle.table_receipts.specs.Parts.{IsLogged, AreLogged}

one_log_more : (names : ℕ → ℕ) (n : ℕ) (ps : List (List Entry)) (xs : List Sight) (p : List Entry) (x : Sight) → AreLogged names n ps xs → IsLogged names (n + length ps) p x → AreLogged names n (ps ++ p ∷ []) (xs ++ x ∷ [])
one_log_more names n [] [] p x all last =
    let same : n + 0 ≡ n = omega arith in
    (subst (λ k. IsLogged names k p x) same last, tt)
one_log_more names n (q ∷ ps) (y ∷ xs) p x all last =
    let same : n + suc (length ps) ≡ n + 1 + length ps = omega arith in
    (all.0, one_log_more names (n + 1) ps xs p x all.1 (subst (λ k. IsLogged names k p x) same last))
one_log_more names n [] (y ∷ xs) p x all last = absurd all
one_log_more names n (q ∷ ps) [] p x all last = absurd all

-- the same as the lists grow
pub logs_grow : (names : ℕ → ℕ) (ps ps' : List (List Entry)) (xs xs' : List Sight) (p : List Entry) (x : Sight)
    → ps' ≡ ps ++ p ∷ []
    → xs' ≡ xs ++ x ∷ []
    → AreLogged names 0 ps xs
    → IsLogged names (length ps) p x
    → AreLogged names 0 ps' xs'
logs_grow names ps ps' xs xs' p x more log all last =
    let place : length ps ≡ 0 + length ps = omega arith in
    let whole = one_log_more names 0 ps xs p x all (subst (λ k. IsLogged names k p x) place last) in
    subst (λ (l : List (List Entry)). AreLogged names 0 l xs') (sym more)
    (subst (λ (l : List Sight). AreLogged names 0 (ps ++ p ∷ []) l) (sym log) whole)
