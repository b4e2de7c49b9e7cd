-- Numbers in digits alone, and lists of them.
use Rattle.std.specs.Prelude.{ℕ, Bool, List, [], ◌∷◌, ◌&&◌, ◌==◌, ◌^◌, not, nat_le, nat_lt, if◌then◌else◌, length, Option, Some, None, option_map, option_and_then}
use Rattle.std.specs.List.{list_all, slice_split}
use Rattle.std.specs.Char.{is_ascii_digit}
use Rattle.std.specs.Str.Parse.{digits_value}
use Rattle.phase_modes.specs.Lists.{is_empty}
use Rattle.command_words.specs.declared.command_line.Every.{Every}
use Rattle.command_words.specs.declared.command_line.Every.TheVariants.{Events, Seconds}
use Rattle.command_words.specs.declared.lists.TheConstants.{MOST_PICKS, GREATEST_PICK, MOST_CELLS, GREATEST_CELL}

-- the texts between the commas (44)
abbrev pub pieces : List ℕ → List (List ℕ)
pieces text = slice_split (λ c. c == 44) text

-- one digit or more, and nothing else
abbrev pub is_numeral : List ℕ → Bool
is_numeral text = not (is_empty text) && list_all is_ascii_digit text

-- the number that digits alone spell, if it has so many bits
abbrev pub number_of_bits : ℕ → List ℕ → Option ℕ
number_of_bits bits text =
    if is_numeral text && nat_lt (digits_value 10 text) (2 ^ bits) then Some (digits_value 10 text) else None

-- the number, if it isn't 0
abbrev pub unless_zero : ℕ → Option ℕ
unless_zero n = if nat_le 1 n then Some n else None

-- a number of 64 bits that isn't 0
abbrev pub count_in : List ℕ → Option ℕ
count_in text = option_and_then unless_zero (number_of_bits 64 text)

-- the text before the `s` (115) that ends it, if one does
abbrev pub before_s : List ℕ → Option (List ℕ)
before_s [] = None
before_s (c ∷ []) = if c == 115 then Some [] else None
before_s (c ∷ d ∷ cs) = option_map (λ front. c ∷ front) (before_s (d ∷ cs))

-- a count of seconds, if that is what stands before an `s`; else one of events
abbrev pub each_by : List ℕ → Option (List ℕ) → Option Every
each_by text None = option_map Events (count_in text)
each_by text (Some front) = option_map Seconds (count_in front)

-- after how many events each time, or with an `s` after it, after how many seconds
abbrev pub each_in : List ℕ → Option Every
each_in text = each_by text (before_s text)

-- the same, if it needn't be given
abbrev pub every_in : Option (List ℕ) → Option (Option Every)
every_in None = Some None
every_in (Some text) = option_map Some (each_in text)

-- how many events, or seconds
abbrev pub amount_of : Every → ℕ
amount_of (Events n) = n
amount_of (Seconds n) = n

-- the number, if it isn't out of range
abbrev pub within : ℕ → ℕ → ℕ → Option ℕ
within least greatest n = if nat_le least n && nat_le n greatest then Some n else None

-- the number of 32 bits that digits alone spell, if it isn't out of range
abbrev pub number_within : ℕ → ℕ → List ℕ → Option ℕ
number_within least greatest text = option_and_then (within least greatest) (number_of_bits 32 text)

-- the number of each text, if each has one that is no greater
abbrev pub numbers_in : ℕ → List (List ℕ) → Option (List ℕ)
numbers_in greatest [] = Some []
numbers_in greatest (p ∷ ps) =
    option_and_then (λ n. option_map (λ ns. n ∷ ns) (numbers_in greatest ps)) (number_within 0 greatest p)

-- the numbers of a list: in digits alone with commas between them, no more and none greater than are allowed
unfoldable pub list_in : ℕ → ℕ → List ℕ → Option (List ℕ)
list_in most greatest text =
    if nat_le (length (pieces text)) most then numbers_in greatest (pieces text) else None

-- the picks of LIST
abbrev pub picks_in : List ℕ → Option (List ℕ)
picks_in text = list_in MOST_PICKS GREATEST_PICK text

-- the same, if LIST needn't be given: without it there are none
abbrev pub listed_in : Option (List ℕ) → Option (List ℕ)
listed_in None = Some []
listed_in (Some text) = picks_in text

-- the first values of a stencil
abbrev pub first_in : List ℕ → Option (List ℕ)
first_in text = list_in MOST_CELLS GREATEST_CELL text

-- how many steps a stencil goes at most, whose events aren't kept or are
abbrev pub most_steps : Bool → ℕ
most_steps live = if live then 4294967295 else 100

-- its steps
abbrev pub steps_in : Bool → List ℕ → Option ℕ
steps_in live text = number_within 0 (most_steps live) text

-- how many items go through a pipeline at most, whose events aren't kept or are
abbrev pub most_items : Bool → ℕ
most_items live = if live then 2000000000 else 100

-- its items
abbrev pub items_in : Bool → List ℕ → Option ℕ
items_in live text = number_within 0 (most_items live) text

-- how many workers: two, if that isn't given
abbrev pub workers_in : Option (List ℕ) → Option ℕ
workers_in None = Some 2
workers_in (Some text) = number_within 1 16 text
