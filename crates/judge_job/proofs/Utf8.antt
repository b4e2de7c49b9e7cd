-- Whether bytes are text, as a fact and as a test.
use Rattle.std.proofs.Common.{◌≡◌, ℕ, List, Bool, true, false, refl, IsUtf8}
use Rattle.std.specs.Str.{is_utf8}
use Rattle.std.proofs.lemmas.Str.{IsUtf8-from_is_utf8, is_utf8-from_IsUtf8}

pub is_text : (bytes : List ℕ) → IsUtf8 bytes → is_utf8 bytes ≡ true
is_text bytes h = is_utf8-from_IsUtf8 bytes h

by_test : (bytes : List ℕ) (b : Bool) → (b ≡ true → IsUtf8 bytes) → ¬ IsUtf8 bytes → b ≡ false
by_test bytes true h never = absurd (never (h refl))
by_test bytes false h never = refl

pub is_no_text : (bytes : List ℕ) → ¬ IsUtf8 bytes → is_utf8 bytes ≡ false
is_no_text bytes never = by_test bytes (is_utf8 bytes) (IsUtf8-from_is_utf8 bytes) never
