-- What a function leaves that writes a part of a text.
use Rattle.std.specs.Prelude.{◌≡◌, ℕ, [], ◌∷◌, ◌++◌, List, Result, IfOk, string_bytes, String}

-- if it is done, its part stands after what was there before
abbrev pub Appends : {X E Z : Type 0} → Result X E → String Z → String Z → List ℕ → Type 0
Appends result old new part = IfOk result (λ _. string_bytes new ≡ string_bytes old ++ part)

-- a name between quotes, as it stands
abbrev pub quoted : List ℕ → List ℕ
quoted name = 34 ∷ name ++ 34 ∷ []
