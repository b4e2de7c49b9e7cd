-- The words after a command's name are read by the command's own shape.
use Rattle.std.proofs.Common.{◌≡◌, List, [], ◌∷◌, Option, Some, None, if◌then◌else◌, refl, sym, ap, ◌∙◌}
use Rattle.std.specs.Prelude.{find, fold, is_some, option_and_then, unwrap_or}
use Rattle.phase_modes.specs.Lists.{is_empty}
use Rattle.clap.specs.Words.{App, Shape, Text, Kinds, built}
use Rattle.clap.specs.Kinds.{or_else}
use Rattle.clap.specs.Simple.{entered, label_of, names_of}
use Rattle.clap.specs.Walk.{Names, Walk, answers_to, finished, nothing_held, settled, walk_from, walked}
use Rattle.clap.specs.Faults.{check_fault, defaults_fault, entered_fault, settle_fault, turn_fault, walk_fault}
use Rattle.clap.proofs.FaultLemmas.{stopped_fault}
use Rattle.clap.proofs.WalkLemmas.{walk_stopped}
use Rattle.command_words.specs.CommandLine.{Asked, asked_among, asked_in, asked_of, program_app}
use Rattle.command_words.proofs.PlainItems.{asked_of_texts}

-- the program, as it is built, and the names of its commands
abbrev program : App
program = built program_app

abbrev names : Names
names = names_of program

-- a command by its name, as it is built
abbrev pub shape_of : Text → Shape
shape_of name = unwrap_or (find (λ s. answers_to name (label_of s)) program.subs) program.top

-- what the program is asked for, by the faults of its own walk and by where that ends
abbrev asked_after : Kinds → Walk → Option Asked
asked_after faults end =
    if is_empty (or_else faults
    (or_else (entered_fault program end.stopped)
    (or_else (settle_fault program.top.rules program.top.args_override_self end.held)
    (or_else (defaults_fault (settled program.top.rules end.held).rows program.top.rules)
    (check_fault program.top (finished program.top.rules end.held) (is_some (entered program end.stopped)))))))
    then option_and_then asked_among (entered program end.stopped) else None

-- the walk that has met the command
abbrev pub stopped_at : Text → List Text → Walk
stopped_at name words = record (walk_from nothing_held) { stopped = Some (name, words) }

-- the program's walk meets the command of this name, and leaves the words after it to that command
pub record IsCommand (name : Text) : Type 0 where
  pub walks : walked program.top.rules names (walk_from nothing_held) name ≡ stopped_at name []
  pub faults : turn_fault program.top names (walk_from nothing_held) name ≡ []
  pub asks : (words : List Text) → asked_after [] (stopped_at name words) ≡ asked_of_texts (shape_of name) words

as_asked : (p : Text) (words : List Text) → asked_in (p ∷ words)
    ≡ asked_after (walk_fault program.top names (walk_from nothing_held) words)
    (fold (walked program.top.rules names) (walk_from nothing_held) words)
unfolding asked_in asked_of
as_asked p words = refl

pub command_entered : (p name : Text) (words : List Text) → IsCommand name
    → asked_in (p ∷ name ∷ words) ≡ asked_of_texts (shape_of name) words
unfolding walk_fault
command_entered p name words is =
    as_asked p (name ∷ words)
    ∙ ap (λ k. asked_after (or_else k (walk_fault program.top names (walked program.top.rules names
    (walk_from nothing_held) name) words)) (fold (walked program.top.rules names)
    (walked program.top.rules names (walk_from nothing_held) name) words)) is.faults
    ∙ ap (λ w. asked_after (walk_fault program.top names w words) (fold (walked program.top.rules names) w words)) is.walks
    ∙ ap (λ k. asked_after k (fold (walked program.top.rules names) (stopped_at name []) words))
    (stopped_fault program.top names (walk_from nothing_held) (name, []) words)
    ∙ ap (asked_after []) (sym (walk_stopped program.top.rules names (walk_from nothing_held) name [] words))
    ∙ is.asks words
