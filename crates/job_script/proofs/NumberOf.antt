-- The number of a name, as the set of the names gives it.
use Rattle.std.proofs.Common.{◌≡◌, ℕ, List, [], ◌∷◌, ◌++◌, ◌+◌, ◌<◌, ◌≤◌, length, map, Bool, true, false, cond, not, Option, Some, None, refl, ap, ap₂, ◌∙◌, arith, nat_lt, string_bytes, String, Global}
use Rattle.std.specs.List.{position, position_or_len}
use Rattle.std.specs.Str.{bytes_eq}
use Rattle.std.proofs.lemmas.List.{length-map, map-append}
use Rattle.std.proofs.lemmas.Bool.{lt-ltb, le-ltb}
use Rattle.job_script.specs.Names.{number_of, number_by, noted}

place-map : {A B : Type 0} (f : A → B) (p : B → Bool) (xs : List A) → position_or_len p (map f xs) ≡ position_or_len (λ x. p (f x)) xs
place-map f p [] = refl
place-map f p (x ∷ xs) = ap (λ n. cond (not (p (f x))) (1 + n) 0) (place-map f p xs)

pub position-map : {A B : Type 0} (f : A → B) (p : B → Bool) (xs : List A) → position p (map f xs) ≡ position (λ x. p (f x)) xs
position-map f p xs = ap₂ (λ n m. cond (nat_lt n m) (Some n) None) (place-map f p xs) (length-map xs f)

-- a name that has a number
pub is_known : (keys : List (String Global)) (fault : Option ℕ) (p i : ℕ) (name : List ℕ) → position (λ k. bytes_eq name (string_bytes k)) keys ≡ Some i
    → number_of (record { names = map string_bytes keys; fault = fault }) p name ≡ (i, record { names = map string_bytes keys; fault = fault })
is_known keys fault p i name at = ap (λ o. number_by o (record { names = map string_bytes keys; fault = fault }) p name) (position-map string_bytes (bytes_eq name) keys ∙ at)

-- the sixty-fifth has none
pub is_past : (keys : List (String Global)) (fault : Option ℕ) (p : ℕ) (name : List ℕ) → position (λ k. bytes_eq name (string_bytes k)) keys ≡ None → 64 ≤ length keys
    → number_of (record { names = map string_bytes keys; fault = fault }) p name ≡ (0, noted (record { names = map string_bytes keys; fault = fault }) p)
is_past keys fault p name none many =
    let full : nat_lt (length (map string_bytes keys)) 64 ≡ false = le-ltb (length (map string_bytes keys)) 64 (omega (arith, many, length-map keys string_bytes)) in
    ap (λ o. number_by o (record { names = map string_bytes keys; fault = fault }) p name) (position-map string_bytes (bytes_eq name) keys ∙ none) ∙ rw full refl

-- a new name comes last
pub is_new : (keys : List (String Global)) (key : String Global) (fault : Option ℕ) (p : ℕ) (name : List ℕ) → position (λ k. bytes_eq name (string_bytes k)) keys ≡ None → length keys < 64 → string_bytes key ≡ name
    → number_of (record { names = map string_bytes keys; fault = fault }) p name ≡ (length keys, record { names = map string_bytes (keys ++ key ∷ []); fault = fault })
is_new keys key fault p name none few same =
    let room : nat_lt (length (map string_bytes keys)) 64 ≡ true = lt-ltb (length (map string_bytes keys)) 64 (omega (arith, few, length-map keys string_bytes)) in
    ap (λ o. number_by o (record { names = map string_bytes keys; fault = fault }) p name) (position-map string_bytes (bytes_eq name) keys ∙ none)
    ∙ rw (room, length-map keys string_bytes, map-append, same) refl
