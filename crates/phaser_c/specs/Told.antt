-- Texts that C is given, in a room of its own.
use Rattle.std.specs.Prelude.{◌≡◌, ◌++◌, ℕ, List, length, drop, nat_le, if◌then◌else◌}

-- the room with the text at its front, if it fits; else the room as it was
abbrev pub told : List ℕ → List ℕ → List ℕ
told text room = if nat_le (length text) (length room) then text ++ drop (length text) room else room

-- the room before and after, and the length that was said, for a text
abbrev pub IsTold : List ℕ → List ℕ → List ℕ → ℕ → Type 0
IsTold text old new written = (written ≡ length text) × (new ≡ told text old)
