-- What stands before the `s` (115) that ends a text.
use Rattle.std.proofs.Common.{◌≡◌, ◌≢◌, ℕ, Bool, true, false, ◌==◌, List, [], ◌∷◌, ◌++◌, Some, None, option_map, cond, refl, ap, ◌∙◌, eqb-true}
use Rattle.command_words.specs.Lists.{before_s}

-- it is the front
front_is : (front : List ℕ) → before_s (front ++ 115 ∷ []) ≡ Some front
front_is [] = refl
front_is (c ∷ []) = refl
front_is (c ∷ d ∷ cs) = ap (option_map (λ l. c ∷ l)) (front_is (d ∷ cs))

pub before : (text front : List ℕ) → text ≡ front ++ 115 ∷ [] → before_s text ≡ Some front
before text front is = ap before_s is ∙ front_is front

-- one character alone, where the test of it is this
alone : (c : ℕ) → ((front : List ℕ) → c ∷ [] ≢ front ++ 115 ∷ []) → (test : Bool) → (c == 115) ≡ test → before_s (c ∷ []) ≡ None
alone c never true e = absurd (never [] (ap (λ x. x ∷ []) (eqb-true _ _ e)))
alone c never false e = ap (λ (b : Bool). cond b (Some []) None) e

-- none ends it
pub no_s : (text : List ℕ) → ((front : List ℕ) → text ≢ front ++ 115 ∷ []) → before_s text ≡ None
no_s [] never = refl
no_s (c ∷ []) never = alone c never (c == 115) refl
no_s (c ∷ d ∷ cs) never = ap (option_map (λ l. c ∷ l)) (no_s (d ∷ cs) (λ front e. never (c ∷ front) (ap (λ l. c ∷ l) e)))
