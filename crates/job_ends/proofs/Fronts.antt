-- A text that is appended piece by piece, from its front.
use Rattle.std.proofs.Common.{◌≡◌, ℕ, ◌+◌, ◌-◌, ◌≤◌, List, ◌++◌, take, drop, length, Option, ap, sym, ◌∙◌, arith}
use Rattle.std.specs.Io.KnownBytes.{Appends}
use Rattle.std.proofs.KnownBytes.{Appends-trans}
use Rattle.std.proofs.lemmas.List.{drop-take, length-drop, take-append-drop, take-take, take_rest}

take_more : (n m : ℕ) (bytes : List ℕ) → take n bytes ++ take m (drop n bytes) ≡ take (n + m) bytes
take_more n m bytes =
    let whole = take (n + m) bytes in
    ap (λ l. l ++ take m (drop n bytes)) (sym (take-take n (n + m) bytes (omega arith)))
    ∙ ap (λ l. take n whole ++ l) (sym (drop-take n m bytes))
    ∙ take-append-drop n whole

-- so many bytes, and then so many of the rest
pub goes_on : (a b c : Option (List ℕ)) (n m : ℕ) (bytes : List ℕ) → Appends a b (take n bytes)
    → Appends b c (take m (take (length bytes - n) (drop n bytes))) → Appends a c (take (n + m) bytes)
goes_on a b c n m bytes p q =
    let piece : Appends b c (take m (drop n bytes)) = rw (sym (ap (take m) (take_rest bytes n))) q in
    rw (sym (take_more n m bytes)) (Appends-trans a b c (take n bytes) (take m (drop n bytes)) p piece)

-- the rest has no more than is left
pub stays_within : (n m : ℕ) (bytes : List ℕ) → n ≤ length bytes
    → m ≤ length (take (length bytes - n) (drop n bytes)) → n + m ≤ length bytes
stays_within n m bytes within few =
    omega (arith, within, few, ap length (take_rest bytes n), length-drop n bytes)
