-- A plain word has none of the forms of an option.
use Rattle.std.proofs.Common.{◌≡◌, ◌==◌, ◌||◌, not, ℕ, [], ◌∷◌, Bool, true, false, None, refl}
use Rattle.std.specs.Str.{bytes_eq}
use Rattle.std.proofs.lemmas.Bool.{eqb-true}
use Rattle.clap.specs.Lexer.{long_of, short_of}
use Rattle.clap.specs.Words.{Text}
use Rattle.phase_modes.specs.Lists.{is_empty}
use Rattle.command_words.specs.CommandLine.{is_plain}

-- a word is empty, or a hyphen alone, or begins with another byte
cases : (P : Text → Type 0) (c : ℕ) (cs : Text) (hyphen : Bool) → (c == 45) ≡ hyphen
    → (not hyphen || is_empty cs) ≡ true → ((c == 45) ≡ false → P (c ∷ cs)) → P (45 ∷ []) → P (c ∷ cs)
cases P c cs false e plain other hyphen = other e
cases P c [] true e plain other hyphen = rw (eqb-true c 45 e) hyphen
cases P c (d ∷ ds) true e plain other hyphen = cc

by_word : (P : Text → Type 0) (word : Text) → is_plain word ≡ true → P [] → P (45 ∷ [])
    → ((c : ℕ) (cs : Text) → (c == 45) ≡ false → P (c ∷ cs)) → P word
by_word P [] plain none hyphen other = none
by_word P (c ∷ cs) plain none hyphen other = cases P c cs (c == 45) refl plain (other c cs) hyphen

-- none of the forms of an option
abbrev pub IsWord : Text → Type 0
IsWord w = (bytes_eq w (45 ∷ 45 ∷ []) ≡ false) × (long_of w ≡ None) × (short_of w ≡ None)

other_word : (c : ℕ) (cs : Text) → (c == 45) ≡ false → IsWord (c ∷ cs)
other_word c cs h = (rw h refl, rw h refl, rw h refl)

pub word : (w : Text) → is_plain w ≡ true → IsWord w
word w plain = by_word IsWord w plain (refl, refl, refl) (refl, refl, refl) other_word
