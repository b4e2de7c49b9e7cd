-- The names of the operators.
use Rattle.std.specs.Prelude.{ℕ, List, [], ◌∷◌, Option, codes}
use Rattle.std.specs.List.{find}
use Rattle.std.specs.Str.{bytes_eq}
use Rattle.phase_model.specs.declared.op.Op.{Op}
use Rattle.phase_model.specs.declared.op.Op.TheVariants.{Sum, Least, Greatest}

-- as it is written in files
abbrev pub name_of : Op → List ℕ
name_of Sum = codes "sum"
name_of Least = codes "least"
name_of Greatest = codes "greatest"

-- all operators
abbrev pub operators : List Op
operators = Sum ∷ Least ∷ Greatest ∷ []

-- the operator of that name, if one has it
abbrev pub named : List ℕ → Option Op
named name = find (λ op. bytes_eq name (name_of op)) operators
