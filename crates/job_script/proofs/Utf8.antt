-- What serde_json says of bytes, as the reading of them.
use Rattle.std.proofs.Common.{◌≡◌, ℕ, List, Bool, true, false, Some, None, if◌then◌else◌, refl, IsUtf8}
use Rattle.std.specs.Str.{is_utf8}
use Rattle.std.proofs.lemmas.Str.{IsUtf8-from_is_utf8, is_utf8-from_IsUtf8}
use Rattle.serde_json.specs.Data.{Data}
use Rattle.serde_json.specs.Read.{read}
use Rattle.job_script.specs.Reading.{reading}

pub is_read : (bytes : List ℕ) (d : Data) → IsUtf8 bytes → read bytes ≡ Some d → reading bytes ≡ Some d
is_read bytes d text e = rw (is_utf8-from_IsUtf8 bytes text) e

unread : (bytes : List ℕ) (b : Bool) → (b ≡ true → read bytes ≡ None) → (if b then read bytes else None) ≡ None
unread bytes true h = h refl
unread bytes false h = refl

pub is_not_read : (bytes : List ℕ) → (IsUtf8 bytes → read bytes ≡ None) → reading bytes ≡ None
is_not_read bytes h = unread bytes (is_utf8 bytes) (λ e. h (IsUtf8-from_is_utf8 bytes e))
