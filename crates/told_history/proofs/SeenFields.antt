-- A struct of one field without bytes, and what a beginning of a log owns. Assumes `Logic`.
use Rattle.std.proofs.Common.{◌≡◌, ℕ, List, [], ◌∷◌, ◌++◌, ap, ◌∙◌}
use mir.Val.{Val, vstruct, of_list}
use base.Growing.{at_least}
use base.Shift.{Keyless}
use base.Stored.{Gv}
use denote.RattleType.{RattleType}
use denote.Laws.{Is}
use Rattle.told_history.proofs.Fields.{token, Token}
use Rattle.told_history.specs.Seen.{front_owns}

-- a value of such a struct is the token
pub token_told : (X : RattleType) (vs : List Val) → Is (Token X) (record {}, tt) vs → vs ≡ token ∷ []
token_told X vs is = is.1.0 ∙ ap (λ (ws : List Val). vstruct (of_list (ws ++ [])) ∷ []) is.1.1.0.1.0

-- what it owns names no thread
pub front_keyless : {A : Type 0} (c : A → Gv) (η : ℕ) (xs : List A) → Keyless (front_owns c η xs)
unfolding front_owns at_least
front_keyless c η xs = tt
