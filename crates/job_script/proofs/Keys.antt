-- The keys of an object, as a `BTreeMap` has them and as the data does.
use Rattle.std.proofs.Common.{◌≡◌, ℕ, List, [], ◌∷◌, Global, String, Bor, map, refl, ap, ◌∙◌, string_bytes, ◌&&◌, ◌||◌}
use Rattle.std.specs.List.{list_all, list_any}
use Rattle.std.specs.Str.{bytes_eq}
use Rattle.std.specs.Map.{keys_of}
use Rattle.serde_json.specs.declared.value.Value.{Value}
use Rattle.serde_json.specs.View.{members_view}
use Rattle.job_script.specs.Words.{only_keys}

-- a key is one of the names, wherever they lie in memory
any_of_shown : (k : List ℕ) (names : List (Bor (List ℕ))) → list_any (λ name. bytes_eq k name.now) names ≡ list_any (bytes_eq k) (map (λ name. name.now) names)
any_of_shown k [] = refl
any_of_shown k (n ∷ ns) = ap (λ b. bytes_eq k n.now || b) (any_of_shown k ns)

-- each key is one of the names
pub only_keys_entries : (names : List (Bor (List ℕ))) (es : List (String Global × Value))
    → list_all (λ k. list_any (λ name. bytes_eq (string_bytes k) name.now) names) (keys_of es) ≡ only_keys (map (λ name. name.now) names) (members_view es)
unfolding only_keys
only_keys_entries names [] = refl
only_keys_entries names (e ∷ es) =
    ap (λ b. b && list_all (λ k. list_any (λ name. bytes_eq (string_bytes k) name.now) names) (keys_of es)) (any_of_shown (string_bytes e.0) names)
    ∙ ap (λ b. list_any (bytes_eq (string_bytes e.0)) (map (λ name. name.now) names) && b) (only_keys_entries names es)
