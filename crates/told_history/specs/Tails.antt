-- A log and a longer one.
use Rattle.std.specs.Prelude.{◌≡◌, List, ◌++◌}

-- ys, newest first, is xs with newer entries, or none
abbrev pub IsTail : {A : Type 0} → List A → List A → Type 0
IsTail {A} xs ys = (newer : List A) × (ys ≡ newer ++ xs)
