-- What a log owns: the kit's algebra of values that only grow, at lists that are appended to.
use Rattle.std.specs.Prelude.{ℕ, List, map, reverse}
use base.Fraction.{full_share}
use base.Stored.{Gv, Coded}
use base.Growing.{Order, prefixes, latest}
use base.Fml.{Fml}

-- a code stands for itself
abbrev pub itself : Coded Gv
itself = record { code = λ g. g; inj = λ x y p. p }

-- a list of codes is before another that goes on where it ends
abbrev pub logs : Order (List Gv)
logs = prefixes itself

-- the entries as they are kept, the oldest first
abbrev pub kept : {A : Type 0} → (A → Gv) → List A → List Gv
kept c xs = map c (reverse xs)

-- all of the log of this name; not unfolded, so that a walk names it
unfoldable pub whole_owns : {A : Type 0} → (A → Gv) → ℕ → List A → Fml
whole_owns c η xs = latest logs full_share η (kept c xs)
