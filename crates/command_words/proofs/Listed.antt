-- Reading a list piece by piece.
use Rattle.std.proofs.Common.{◌≡◌, ℕ, ◌+◌, ◌<◌, ◌≤◌, Bool, true, false, List, [], ◌∷◌, ◌++◌, length, get_or, drop, Option, Some, None, if◌then◌else◌, nat_le, option_map, refl, sym, ap, ◌∙◌, arith, append-nil, append_assoc, le-leb, leb-true}
use Rattle.std.specs.Prelude.{option_and_then}
use Rattle.std.proofs.lemmas.List.{at_drop_more, at_drop_all, length_push}
use Rattle.command_words.specs.Lists.{list_in, number_within, numbers_in, pieces}

-- these numbers, and then those that are left
abbrev pub onto : List ℕ → Option (List ℕ) → Option (List ℕ)
onto ns rest = option_map (λ more. ns ++ more) rest

-- a number, and then those that are left
abbrev pub with_rest : Option (List ℕ) → Option ℕ → Option (List ℕ)
with_rest rest = option_and_then (λ n. option_map (λ ns. n ∷ ns) rest)

-- the first n pieces are these numbers
pub record ReadSoFar (most greatest : ℕ) (text : List ℕ) (n : ℕ) (numbers : List ℕ) : Type 0 where
  pub many : length numbers ≡ n
  pub few : n ≤ most
  pub read : numbers_in greatest (pieces text) ≡ onto numbers (numbers_in greatest (drop n (pieces text)))

module _ (most greatest : ℕ) where
  onto_none : (rest : Option (List ℕ)) → rest ≡ onto [] rest
  onto_none None = refl
  onto_none (Some ns) = refl

  pub none_read : (text : List ℕ) → ReadSoFar most greatest text 0 []
  none_read text = record { many = refl; few = omega arith; read = onto_none (numbers_in greatest (pieces text)) }

  -- the next piece
  abbrev pub IsNext : List ℕ → ℕ → List ℕ → Type 0
  IsNext text n piece = (n < length (pieces text)) × (piece ≡ get_or (pieces text) n piece)

  at_piece : (text : List ℕ) (n : ℕ) (piece : List ℕ) → IsNext text n piece
      → numbers_in greatest (drop n (pieces text))
      ≡ with_rest (numbers_in greatest (drop (n + 1) (pieces text))) (number_within 0 greatest piece)
  at_piece text n piece h =
      at_drop_more (numbers_in greatest) (pieces text) n piece h.0
      ∙ ap (λ (p : List ℕ). with_rest (numbers_in greatest (drop (n + 1) (pieces text))) (number_within 0 greatest p)) (sym h.1)

  -- a list that is none has no numbers
  by_count : (few : Bool) (o : Option (List ℕ)) → o ≡ None → (if few then o else None) ≡ None
  by_count true o e = e
  by_count false o e = refl

  no_numbers : (text : List ℕ) → numbers_in greatest (pieces text) ≡ None → list_in most greatest text ≡ None
  unfolding list_in
  no_numbers text e = by_count (nat_le (length (pieces text)) most) (numbers_in greatest (pieces text)) e

  pub bad_piece : (text : List ℕ) (n : ℕ) (numbers piece : List ℕ) → ReadSoFar most greatest text n numbers → IsNext text n piece
      → number_within 0 greatest piece ≡ None → list_in most greatest text ≡ None
  bad_piece text n numbers piece so_far next bad =
      no_numbers text
      (so_far.read
      ∙ ap (onto numbers) (at_piece text n piece next
      ∙ ap (with_rest (numbers_in greatest (drop (n + 1) (pieces text)))) bad))

  -- a list of more than are allowed has none either
  over_count : (m : ℕ) (few : Bool) (o : Option (List ℕ)) → nat_le m most ≡ few → most < m
      → (if few then o else None) ≡ None
  over_count m true o e over = absurd (omega (arith, leb-true m most e))
  over_count m false o e over = refl

  pub too_many : (text : List ℕ) (n : ℕ) (piece : List ℕ) → IsNext text n piece → n ≡ most
      → list_in most greatest text ≡ None
  unfolding list_in
  too_many text n piece next full =
      over_count (length (pieces text)) (nat_le (length (pieces text)) most)
      (numbers_in greatest (pieces text)) refl
      (omega (arith, next.0, full))

  onto_more : (numbers : List ℕ) (k : ℕ) (rest : Option (List ℕ))
      → onto numbers (option_map (λ ns. k ∷ ns) rest) ≡ onto (numbers ++ k ∷ []) rest
  onto_more numbers k None = refl
  onto_more numbers k (Some ns) = ap Some (sym (append_assoc numbers (k ∷ []) ns))

  pub one_more : (text : List ℕ) (n : ℕ) (numbers piece : List ℕ) (k : ℕ) → ReadSoFar most greatest text n numbers
      → IsNext text n piece → number_within 0 greatest piece ≡ Some k → n < most
      → ReadSoFar most greatest text (n + 1) (numbers ++ k ∷ [])
  one_more text n numbers piece k so_far next good room = record {
    many = omega (arith, length_push numbers k, so_far.many);
    few = omega (arith, room);
    read =
        so_far.read
        ∙ ap (onto numbers) (at_piece text n piece next
        ∙ ap (with_rest (numbers_in greatest (drop (n + 1) (pieces text)))) good)
        ∙ onto_more numbers k (numbers_in greatest (drop (n + 1) (pieces text)));
  }

  in_count : (m : ℕ) (few : Bool) (o : Option (List ℕ)) → nat_le m most ≡ few → m ≤ most
      → (if few then o else None) ≡ o
  in_count m true o e few = refl
  in_count m false o e few = absurd (let t = le-leb m most few in cc)

  whole_count : (text : List ℕ) → length (pieces text) ≤ most → list_in most greatest text ≡ numbers_in greatest (pieces text)
  unfolding list_in
  whole_count text few =
      in_count (length (pieces text)) (nat_le (length (pieces text)) most) (numbers_in greatest (pieces text))
      refl few

  pub all_read : (text : List ℕ) (n : ℕ) (numbers : List ℕ) → ReadSoFar most greatest text n numbers → n ≡ length (pieces text)
      → list_in most greatest text ≡ Some numbers
  all_read text n numbers so_far end =
      whole_count text (omega (arith, so_far.few, end))
      ∙ (so_far.read
      ∙ ap (onto numbers) (at_drop_all (numbers_in greatest) (pieces text) n (omega (arith, end)))
      ∙ ap Some (append-nil numbers))
