-- One step of a command's walk at a word that has none of the forms of an option.
use Rattle.std.proofs.Common.{◌≡◌, ℕ, List, [], ◌∷◌, ◌++◌, Bool, true, false, Option, Some, None, if◌then◌else◌, refl, ap, ◌∙◌}
use Rattle.std.specs.Prelude.{is_some}
use Rattle.clap.specs.Words.{Rule, Shape, Text, Kinds}
use Rattle.clap.specs.Kinds.{or_else}
use Rattle.clap.specs.Walk.{Held, Step, Waiting, Walk, after_step, idle, option, plain_word, positional, subcommand_met, value, walked, walked_from, word_met}
use Rattle.clap.specs.Faults.{step_fault, turn_fault, word_fault}
use Rattle.command_words.proofs.Plain.{IsWord}

-- what such a word is
abbrev pub value_met : List Rule → Bool → Waiting → Text → Held → Held × Step
value_met c is_trailing waiting word h = if is_trailing then (h, value) else plain_word c waiting word h

no_subcommand : (waiting : Waiting) (word : Text) → subcommand_met [] waiting word ≡ None
no_subcommand idle word = refl
no_subcommand (option id) word = refl
no_subcommand positional word = refl

met_as_value : (c : List Rule) (is_trailing : Bool) (waiting : Waiting) (position : ℕ) (word : Text) (h : Held)
    → IsWord word → word_met c [] is_trailing waiting position word h ≡ value_met c is_trailing waiting word h
met_as_value c true waiting position word h k = refl
met_as_value c false waiting position word h k = simp (no_subcommand waiting word, k.0, k.1, k.2)

-- the walk after it
abbrev pub value_from : List Rule → Option (Text × List Text) → Walk → Text → Walk
value_from c (Some p) w word = record w { stopped = Some (p.0, p.1 ++ word ∷ []) }
value_from c None w word =
    let met = value_met c w.is_trailing w.waiting word w.held in after_step c word w met.0 met.1

abbrev pub value_walked : List Rule → Walk → Text → Walk
value_walked c w word = value_from c w.stopped w word

walked_by_stop : (c : List Rule) (stop : Option (Text × List Text)) (w : Walk) (word : Text) → IsWord word
    → walked_from c [] stop w word ≡ value_from c stop w word
walked_by_stop c (Some p) w word k = refl
walked_by_stop c None w word k =
    ap (λ (met : Held × Step). after_step c word w met.0 met.1)
    (met_as_value c w.is_trailing w.waiting w.position word w.held k)

pub walked_value : (c : List Rule) (w : Walk) (word : Text) → IsWord word → walked c [] w word ≡ value_walked c w word
unfolding walked
walked_value c w word k = walked_by_stop c w.stopped w word k

-- its faults
abbrev pub value_fault : Shape → Walk → Text → Kinds
value_fault s w word =
    let met = value_met s.rules w.is_trailing w.waiting word w.held in
    if is_some w.stopped then [] else step_fault s w.position met.0 met.1

no_option_fault : (s : Shape) (is_trailing : Bool) (waiting : Waiting) (word : Text) (h : Held) → IsWord word
    → word_fault s [] is_trailing waiting word h ≡ []
no_option_fault s true waiting word h k = refl
no_option_fault s false waiting word h k = simp (no_subcommand waiting word, k.0, k.1, k.2)

pub fault_of_value : (s : Shape) (w : Walk) (word : Text) → IsWord word → turn_fault s [] w word ≡ value_fault s w word
fault_of_value s w word k =
    ap (λ (met : Held × Step). if is_some w.stopped then []
    else or_else (word_fault s [] w.is_trailing w.waiting word w.held) (step_fault s w.position met.0 met.1))
    (met_as_value s.rules w.is_trailing w.waiting w.position word w.held k)
    ∙ (let met = value_met s.rules w.is_trailing w.waiting word w.held in
    ap (λ (faults : Kinds). if is_some w.stopped then [] else or_else faults (step_fault s w.position met.0 met.1))
    (no_option_fault s w.is_trailing w.waiting word w.held k))
