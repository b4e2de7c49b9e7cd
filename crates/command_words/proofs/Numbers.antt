-- A number of so many bits in digits alone is what the standard library's reader reads.
use Rattle.std.proofs.Common.{◌≡◌, ℕ, ◌<◌, ◌^◌, ◌&&◌, Bool, true, false, List, [], ◌∷◌, length, Option, Some, None, Result, Ok, Err, if◌then◌else◌, nat_lt, not, refl, sym, ap, ◌∙◌, arith, lt-ltb, ltb-true}
use Rattle.std.specs.List.{list_all}
use Rattle.std.specs.Char.{is_ascii_digit}
use Rattle.std.specs.Result.{OkIff, result_ok}
use Rattle.std.specs.Str.{all_ascii_digits}
use Rattle.std.specs.Str.Parse.{ParsesUnsigned, digits_value}
use Rattle.std.proofs.lemmas.Str.Parse.{numerals_by_value, parse_digits, tells_all_ascii_digits}
use Rattle.std.proofs.lemmas.Bool.{and_from, and_left, and_right}
use Rattle.phase_modes.specs.Lists.{is_empty}
use Rattle.command_words.specs.Lists.{is_numeral, number_of_bits}

alike : (text : List ℕ) → list_all is_ascii_digit text ≡ all_ascii_digits text
alike [] = refl
alike (c ∷ cs) = ap (λ (b : Bool). is_ascii_digit c && b) (alike cs)

-- the number, where the test of it holds
abbrev number_by : Bool → ℕ → Option ℕ
number_by test n = if test then Some n else None

module _ (bits : ℕ) where
  by_test : (text : List ℕ) (test : Bool) → (is_numeral text && nat_lt (digits_value 10 text) (2 ^ bits)) ≡ test
      → number_of_bits bits text ≡ number_by test (digits_value 10 text)
  by_test text test e = ap (λ (b : Bool). number_by b (digits_value 10 text)) e

  out_of_range : (c : ℕ) (cs : List ℕ) (fits : Bool) → nat_lt (digits_value 10 (c ∷ cs)) (2 ^ bits) ≡ fits
      → ((0 < length (c ∷ cs)) × (digits_value 10 (c ∷ cs) < 2 ^ bits) → ⊥) → number_of_bits bits (c ∷ cs) ≡ None
  out_of_range c cs true e unfit = absurd (unfit (omega arith, ltb-true _ _ e))
  out_of_range c cs false e unfit = by_test (c ∷ cs) false (and_right (is_numeral (c ∷ cs)) _ e)

  by_answer : {E : Type 0} → (text : List ℕ) (r : Result ℕ E) → list_all is_ascii_digit text ≡ true
      → OkIff r ((0 < length text) × (digits_value 10 text < 2 ^ bits)) (digits_value 10 text)
      → result_ok r ≡ number_of_bits bits text
  by_answer [] (Ok n) digits h = absurd (omega (arith, h.0.0))
  by_answer [] (Err e) digits h = refl
  by_answer (c ∷ cs) (Ok n) digits h =
      ap Some h.1 ∙ sym (by_test (c ∷ cs) true (and_from (is_numeral (c ∷ cs)) _ digits (lt-ltb _ _ h.0.1)))
  by_answer (c ∷ cs) (Err e) digits h =
      sym (out_of_range c cs (nat_lt (digits_value 10 (c ∷ cs)) (2 ^ bits)) refl h)

  -- what is read of digits
  pub of_digits : {E : Type 0} → (text : List ℕ) (r : Result ℕ E) → list_all is_ascii_digit text ≡ true
      → ParsesUnsigned bits 10 text r → result_ok r ≡ number_of_bits bits text
  of_digits text r digits parses =
      by_answer text r digits
      (parse_digits (numerals_by_value (λ ds. all_ascii_digits ds ≡ true) tells_all_ascii_digits) bits text
      r parses
      (sym (alike text) ∙ digits))

  -- other texts spell no number
  pub of_others : (text : List ℕ) → list_all is_ascii_digit text ≡ false → None ≡ number_of_bits bits text
  of_others text other =
      sym (by_test text false
      (and_left (is_numeral text) _ (and_right (not (is_empty text)) (list_all is_ascii_digit text) other)))
