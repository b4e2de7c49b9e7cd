-- What stands first among the tokens of a line, and the tokens after it.
use Rattle.std.specs.Prelude.{◌≡◌, ℕ, ℤ, pos, int_lt, ◌^◌, ◌-◌, ◌==◌, ◌&&◌, nat_lt, nat_le, Bool, true, false, if◌then◌else◌, List, [], ◌∷◌, drop, slice_index, Option, Some, None, MatchOption}
use Rattle.std.specs.Option.{option_map_or}
use Rattle.fast_float.specs.Text.{Parts, scan, digits_of, with_sign}
use Rattle.json.specs.Token.{Token}
use Rattle.json.specs.Token as token
use Rattle.json.specs.Json.{Parse, after_end_array}
use Rattle.serde_json.specs.Read.{is_integer}
use Rattle.phase_modes.specs.declared.reg.Mode.{Mode}
use Rattle.phase_modes.specs.Mode as modes
use Rattle.phase_modes.specs.Lists.{is_empty}
use Rattle.phase_model.specs.declared.op.Op.{Op}
use Rattle.phase_model.specs.Ops as operators

-- the first step's value goes into the second step, if there is one
infixl 10 ◌>>=◌
abbrev pub ◌>>=◌ : {A B : Type 0} → Option A → (A → Option B) → Option B
None >>= f = None
(Some x) >>= f = f x

-- the reader found this at the front of the tokens `old`, and has `new` left; or there is nothing such
abbrev pub Reads : {A : Type 0} → Parse A → List Token → Option A → List Token → Type 0
Reads front old found new = MatchOption found (front old ≡ None) (λ x. front old ≡ Some (x, new))

-- ---- numbers

-- the number has a minus
abbrev pub has_minus : List ℕ → Bool
has_minus s = slice_index s 0 == 45

-- digits alone, of 64 bits
abbrev pub digits_in : Parts → Option ℕ
digits_in p = if is_integer p && nat_lt (digits_of p) (2 ^ 64) then Some (digits_of p) else None

-- a whole number of 64 bits
abbrev pub whole_in : List ℕ → Option ℕ
whole_in s = if has_minus s then None else digits_in (scan s)

-- the number with this sign, of 64 bits; there is no -0
abbrev pub with_minus : Bool → ℕ → Option ℤ
with_minus false n = if nat_lt n (2 ^ 63) then Some (pos n) else None
with_minus true n = if nat_lt 0 n && nat_le n (2 ^ 63) then Some (with_sign true n) else None

-- a whole number of 64 bits with a sign
abbrev pub signed_in : List ℕ → Option ℤ
signed_in s = if has_minus s then digits_in (scan (drop 1 s)) >>= with_minus true else digits_in (scan s) >>= with_minus false

-- the text of a number
abbrev pub numeral_front : Parse (List ℕ)
numeral_front [] = None
numeral_front (token.number s ∷ ts) = Some (s, ts)
numeral_front (token.begin_object ∷ ts) = None
numeral_front (token.end_object ∷ ts) = None
numeral_front (token.begin_array ∷ ts) = None
numeral_front (token.end_array ∷ ts) = None
numeral_front (token.key s ∷ ts) = None
numeral_front (token.string s ∷ ts) = None
numeral_front (token.boolean b ∷ ts) = None
numeral_front (token.null ∷ ts) = None
numeral_front (token.bad ∷ ts) = None

-- a whole number of 64 bits
unfoldable pub number_front : Parse ℕ
number_front ts = numeral_front ts >>= λ s. whole_in s.0 >>= λ n. Some (n, s.1)

-- a whole number that is at most this
unfoldable pub number_within : ℕ → Parse ℕ
number_within most ts = number_front ts >>= λ n. if nat_le n.0 most then Some n else None

-- a whole number of 64 bits with a sign
unfoldable pub signed_front : Parse ℤ
signed_front ts = numeral_front ts >>= λ s. signed_in s.0 >>= λ z. Some (z, s.1)

-- a value that is sent: a whole number of 32 bits with a sign
unfoldable pub value_front : Parse ℤ
value_front ts = signed_front ts >>= λ z.
    if int_lt z.0 (with_sign true (2 ^ 31)) then None
    else (if int_lt (pos (2 ^ 31 - 1)) z.0 then None else Some z)

-- ---- words

-- a word
abbrev pub word_front : Parse (List ℕ)
word_front [] = None
word_front (token.string s ∷ ts) = Some (s, ts)
word_front (token.begin_object ∷ ts) = None
word_front (token.end_object ∷ ts) = None
word_front (token.begin_array ∷ ts) = None
word_front (token.end_array ∷ ts) = None
word_front (token.key s ∷ ts) = None
word_front (token.number s ∷ ts) = None
word_front (token.boolean b ∷ ts) = None
word_front (token.null ∷ ts) = None
word_front (token.bad ∷ ts) = None

-- a mode
unfoldable pub mode_front : Parse Mode
mode_front ts = word_front ts >>= λ w. modes.named w.0 >>= λ m. Some (m, w.1)

-- an operator
unfoldable pub op_front : Parse Op
op_front ts = word_front ts >>= λ w. operators.named w.0 >>= λ o. Some (o, w.1)

-- ---- lists

-- what follows the bracket that opens a list, if one stands there
abbrev pub after_begin_array : List Token → Option (List Token)
after_begin_array [] = None
after_begin_array (token.begin_array ∷ ts) = Some ts
after_begin_array (token.null ∷ ts) = None
after_begin_array (token.begin_object ∷ ts) = None
after_begin_array (token.end_object ∷ ts) = None
after_begin_array (token.end_array ∷ ts) = None
after_begin_array (token.key s ∷ ts) = None
after_begin_array (token.string s ∷ ts) = None
after_begin_array (token.number s ∷ ts) = None
after_begin_array (token.boolean b ∷ ts) = None
after_begin_array (token.bad ∷ ts) = None

-- the list ends here, and the text with it
abbrev pub is_last : List Token → Bool
is_last ts = option_map_or is_empty (after_end_array ts) false
