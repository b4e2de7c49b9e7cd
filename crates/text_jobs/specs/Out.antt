-- What is written to OUT, if there is an OUT.
use Rattle.std.specs.Prelude.{ℕ, List, Option, Some, None, ⊤}
use Rattle.std.specs.Io.KnownBytes.{Appends, Keeps}

-- the text was appended to OUT
abbrev pub AppendsOut : {T : Type 0} → (T → Option (List ℕ)) → Option T → Option T → List ℕ → Type 0
AppendsOut contents None new text = ⊤
AppendsOut contents (Some old) None text = ⊥
AppendsOut contents (Some old) (Some new) text = Appends (contents old) (contents new) text

-- nothing was
abbrev pub KeepsOut : {T : Type 0} → (T → Option (List ℕ)) → Option T → Option T → Type 0
KeepsOut contents None new = ⊤
KeepsOut contents (Some old) None = ⊥
KeepsOut contents (Some old) (Some new) = Keeps (contents old) (contents new)
