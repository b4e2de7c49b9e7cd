-- A walk over words of which some are written out, and the others have none of the forms of an option.
use Rattle.std.proofs.Common.{◌≡◌, List, [], ◌∷◌, Option, None, false, if◌then◌else◌, refl, ap, ◌∙◌}
use Rattle.std.specs.Prelude.{fold, ⊤}
use Rattle.phase_modes.specs.Lists.{is_empty}
use Rattle.clap.specs.Words.{Rule, Shape, Text, Kinds}
use Rattle.clap.specs.Kinds.{or_else}
use Rattle.clap.specs.Walk.{Walk, finished, nothing_held, settled, walk_from, walked}
use Rattle.clap.specs.Faults.{check_fault, defaults_fault, settle_fault, turn_fault, walk_fault}
use Rattle.command_words.specs.CommandLine.{Asked, asked_among}
use Rattle.command_words.proofs.Plain.{IsWord}
use Rattle.command_words.proofs.PlainSteps.{fault_of_value, value_fault, value_walked, walked_value}

pub data Item : Type 0 where
  -- a word that is written out, as the name of an option
  named : Text → Item
  -- FILE, or the value of an option
  given : Text → Item

abbrev pub text_of : Item → Text
text_of (named name) = name
text_of (given word) = word

abbrev pub texts_of : List Item → List Text
texts_of [] = []
texts_of (item ∷ rest) = text_of item ∷ texts_of rest

-- an item that is given has none of the forms of an option
abbrev pub IsGood : Item → Type 0
IsGood (named name) = ⊤
IsGood (given word) = IsWord word

abbrev pub AreGood : List Item → Type 0
AreGood [] = ⊤
AreGood (item ∷ rest) = IsGood item × AreGood rest

-- a step of the walk, which tries no form of an option at a word that is given
abbrev pub item_walked : List Rule → Walk → Item → Walk
item_walked c w (named name) = walked c [] w name
item_walked c w (given word) = value_walked c w word

abbrev pub item_fault : Shape → Walk → Item → Kinds
item_fault s w (named name) = turn_fault s [] w name
item_fault s w (given word) = value_fault s w word

abbrev pub items_fault : Shape → Walk → List Item → Kinds
items_fault s w [] = []
items_fault s w (item ∷ rest) = or_else (item_fault s w item) (items_fault s (item_walked s.rules w item) rest)

-- it is the walk over the words
one_walked : (c : List Rule) (w : Walk) (item : Item) → IsGood item → walked c [] w (text_of item) ≡ item_walked c w item
one_walked c w (named name) good = refl
one_walked c w (given word) good = walked_value c w word good

one_fault : (s : Shape) (w : Walk) (item : Item) → IsGood item → turn_fault s [] w (text_of item) ≡ item_fault s w item
one_fault s w (named name) good = refl
one_fault s w (given word) good = fault_of_value s w word good

all_walked : (c : List Rule) (w : Walk) (items : List Item) → AreGood items
    → fold (walked c []) w (texts_of items) ≡ fold (item_walked c) w items
all_walked c w [] good = refl
all_walked c w (item ∷ rest) good =
    ap (λ v. fold (walked c []) v (texts_of rest)) (one_walked c w item good.0)
    ∙ all_walked c (item_walked c w item) rest good.1

all_faults : (s : Shape) (w : Walk) (items : List Item) → AreGood items
    → walk_fault s [] w (texts_of items) ≡ items_fault s w items
unfolding walk_fault
all_faults s w [] good = refl
all_faults s w (item ∷ rest) good =
    ap (λ faults. or_else faults (walk_fault s [] (walked s.rules [] w (text_of item)) (texts_of rest)))
    (one_fault s w item good.0)
    ∙ ap (λ v. or_else (item_fault s w item) (walk_fault s [] v (texts_of rest))) (one_walked s.rules w item good.0)
    ∙ ap (or_else (item_fault s w item)) (all_faults s (item_walked s.rules w item) rest good.1)

-- what a command of this shape is asked for, by the faults of its walk and by where that ends
abbrev pub asked_at : Shape → Kinds → Walk → Option Asked
asked_at s faults end =
    if is_empty (or_else (or_else faults
    (or_else (settle_fault s.rules s.args_override_self end.held)
    (or_else (defaults_fault (settled s.rules end.held).rows s.rules)
    (check_fault s (finished s.rules end.held) false)))) [])
    then asked_among (s.name, finished s.rules end.held) else None

abbrev pub asked_of_texts : Shape → List Text → Option Asked
asked_of_texts s words =
    asked_at s (walk_fault s [] (walk_from nothing_held) words) (fold (walked s.rules []) (walk_from nothing_held) words)

abbrev pub asked_of_items : Shape → List Item → Option Asked
asked_of_items s items =
    asked_at s (items_fault s (walk_from nothing_held) items)
    (fold (item_walked s.rules) (walk_from nothing_held) items)

pub items_read : (s : Shape) (items : List Item) → AreGood items
    → asked_of_texts s (texts_of items) ≡ asked_of_items s items
items_read s items good =
    ap (λ faults. asked_at s faults (fold (walked s.rules []) (walk_from nothing_held) (texts_of items)))
    (all_faults s (walk_from nothing_held) items good)
    ∙ ap (asked_at s (items_fault s (walk_from nothing_held) items))
    (all_walked s.rules (walk_from nothing_held) items good)
