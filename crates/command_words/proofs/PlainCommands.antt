-- Each command: its name, its words as items, and that it reads them as what they say.
use Rattle.std.proofs.Common.{◌≡◌, true, false, Bool, List, [], ◌∷◌, Option, Some, None, codes, refl}
use Rattle.clap.specs.Words.{Text}
use Rattle.clap.proofs.OnLiterals.{clap_on_literals}
use Rattle.command_words.specs.CommandLine.{Asked, certify, events, judge, pipeline, plain_words, replay, run, schedule, stencil}
use Rattle.command_words.proofs.PlainEntry.{IsCommand, shape_of}
use Rattle.command_words.proofs.PlainItems.{Item, asked_of_items, given, named, texts_of}

-- its name
abbrev pub name_of : Asked → Text
name_of (events file) = codes "events"
name_of (schedule file list out) = codes "schedule"
name_of (run file workers out certain live progress) = codes "run"
name_of (replay file out) = codes "replay"
name_of (certify file) = codes "certify"
name_of (judge file every) = codes "judge"
name_of (stencil first steps workers live progress) = codes "stencil"
name_of (pipeline k items workers live progress) = codes "pipeline"

-- an option with its value, where it has one, and then the rest
abbrev pub with_option : Text → Option Text → List Item → List Item
with_option name None rest = rest
with_option name (Some value) rest = named name ∷ given value ∷ rest

-- a flag, where it is wanted, and then the rest
abbrev pub with_flag : Text → Bool → List Item → List Item
with_flag name true rest = named name ∷ rest
with_flag name false rest = rest

-- `--live` and `--progress`
abbrev pub flags_of : Bool → Bool → List Item
flags_of live progress = with_flag (codes "--live") live (with_flag (codes "--progress") progress [])

-- the words after its name
abbrev pub items_of : Asked → List Item
items_of (events file) = given file ∷ []
items_of (schedule file list out) =
    given file ∷ with_option (codes "--picks") list (with_option (codes "--trace") out [])
items_of (run file workers out certain live progress) =
    given file
    ∷ with_option (codes "--workers") workers
    (with_option (codes "--trace") out (with_flag (codes "--certain") certain (flags_of live progress)))
items_of (replay file out) = given file ∷ with_option (codes "--upgrade") out []
items_of (certify file) = given file ∷ []
items_of (judge file every) = given file ∷ with_option (codes "--every") every []
items_of (stencil first steps workers live progress) =
    named (codes "--first") ∷ given first ∷ named (codes "--steps") ∷ given steps
    ∷ with_option (codes "--workers") workers (flags_of live progress)
items_of (pipeline k items workers live progress) =
    named (codes "--stages") ∷ given k ∷ named (codes "--items") ∷ given items
    ∷ with_option (codes "--workers") workers (flags_of live progress)

-- the program's walk meets it
pub command_of : (asked : Asked) → IsCommand (name_of asked)
unfolding clap_on_literals
command_of (events file) = record { walks = refl; faults = refl; asks = λ words. refl }
command_of (schedule file list out) = record { walks = refl; faults = refl; asks = λ words. refl }
command_of (run file workers out certain live progress) = record { walks = refl; faults = refl; asks = λ words. refl }
command_of (replay file out) = record { walks = refl; faults = refl; asks = λ words. refl }
command_of (certify file) = record { walks = refl; faults = refl; asks = λ words. refl }
command_of (judge file every) = record { walks = refl; faults = refl; asks = λ words. refl }
command_of (stencil first steps workers live progress) = record { walks = refl; faults = refl; asks = λ words. refl }
command_of (pipeline k items workers live progress) = record { walks = refl; faults = refl; asks = λ words. refl }

-- the items are its plain words, and its shape reads them as what they say
pub record IsRead (asked : Asked) : Type 0 where
  pub said : (p : Text) → plain_words p asked ≡ p ∷ name_of asked ∷ texts_of (items_of asked)
  pub read : asked_of_items (shape_of (name_of asked)) (items_of asked) ≡ Some asked

schedule_read : (file : Text) (list out : Option Text) → IsRead (schedule file list out)
unfolding clap_on_literals
schedule_read file None None = record { said = λ p. refl; read = refl }
schedule_read file (Some list) None = record { said = λ p. refl; read = refl }
schedule_read file None (Some out) = record { said = λ p. refl; read = refl }
schedule_read file (Some list) (Some out) = record { said = λ p. refl; read = refl }

run_read : (file : Text) (workers out : Option Text) (certain live progress : Bool)
    → IsRead (run file workers out certain live progress)
unfolding clap_on_literals
run_read file None None true true true = record { said = λ p. refl; read = refl }
run_read file None None true true false = record { said = λ p. refl; read = refl }
run_read file None None true false true = record { said = λ p. refl; read = refl }
run_read file None None true false false = record { said = λ p. refl; read = refl }
run_read file None None false true true = record { said = λ p. refl; read = refl }
run_read file None None false true false = record { said = λ p. refl; read = refl }
run_read file None None false false true = record { said = λ p. refl; read = refl }
run_read file None None false false false = record { said = λ p. refl; read = refl }
run_read file (Some workers) None true true true = record { said = λ p. refl; read = refl }
run_read file (Some workers) None true true false = record { said = λ p. refl; read = refl }
run_read file (Some workers) None true false true = record { said = λ p. refl; read = refl }
run_read file (Some workers) None true false false = record { said = λ p. refl; read = refl }
run_read file (Some workers) None false true true = record { said = λ p. refl; read = refl }
run_read file (Some workers) None false true false = record { said = λ p. refl; read = refl }
run_read file (Some workers) None false false true = record { said = λ p. refl; read = refl }
run_read file (Some workers) None false false false = record { said = λ p. refl; read = refl }
run_read file None (Some out) true true true = record { said = λ p. refl; read = refl }
run_read file None (Some out) true true false = record { said = λ p. refl; read = refl }
run_read file None (Some out) true false true = record { said = λ p. refl; read = refl }
run_read file None (Some out) true false false = record { said = λ p. refl; read = refl }
run_read file None (Some out) false true true = record { said = λ p. refl; read = refl }
run_read file None (Some out) false true false = record { said = λ p. refl; read = refl }
run_read file None (Some out) false false true = record { said = λ p. refl; read = refl }
run_read file None (Some out) false false false = record { said = λ p. refl; read = refl }
run_read file (Some workers) (Some out) true true true = record { said = λ p. refl; read = refl }
run_read file (Some workers) (Some out) true true false = record { said = λ p. refl; read = refl }
run_read file (Some workers) (Some out) true false true = record { said = λ p. refl; read = refl }
run_read file (Some workers) (Some out) true false false = record { said = λ p. refl; read = refl }
run_read file (Some workers) (Some out) false true true = record { said = λ p. refl; read = refl }
run_read file (Some workers) (Some out) false true false = record { said = λ p. refl; read = refl }
run_read file (Some workers) (Some out) false false true = record { said = λ p. refl; read = refl }
run_read file (Some workers) (Some out) false false false = record { said = λ p. refl; read = refl }

stencil_read : (first steps : Text) (workers : Option Text) (live progress : Bool)
    → IsRead (stencil first steps workers live progress)
unfolding clap_on_literals
stencil_read first steps None true true = record { said = λ p. refl; read = refl }
stencil_read first steps None true false = record { said = λ p. refl; read = refl }
stencil_read first steps None false true = record { said = λ p. refl; read = refl }
stencil_read first steps None false false = record { said = λ p. refl; read = refl }
stencil_read first steps (Some workers) true true = record { said = λ p. refl; read = refl }
stencil_read first steps (Some workers) true false = record { said = λ p. refl; read = refl }
stencil_read first steps (Some workers) false true = record { said = λ p. refl; read = refl }
stencil_read first steps (Some workers) false false = record { said = λ p. refl; read = refl }

pipeline_read : (k items : Text) (workers : Option Text) (live progress : Bool)
    → IsRead (pipeline k items workers live progress)
unfolding clap_on_literals
pipeline_read k items None true true = record { said = λ p. refl; read = refl }
pipeline_read k items None true false = record { said = λ p. refl; read = refl }
pipeline_read k items None false true = record { said = λ p. refl; read = refl }
pipeline_read k items None false false = record { said = λ p. refl; read = refl }
pipeline_read k items (Some workers) true true = record { said = λ p. refl; read = refl }
pipeline_read k items (Some workers) true false = record { said = λ p. refl; read = refl }
pipeline_read k items (Some workers) false true = record { said = λ p. refl; read = refl }
pipeline_read k items (Some workers) false false = record { said = λ p. refl; read = refl }

pub as_said : (asked : Asked) → IsRead asked
unfolding clap_on_literals
as_said (events file) = record { said = λ p. refl; read = refl }
as_said (schedule file list out) = schedule_read file list out
as_said (run file workers out certain live progress) = run_read file workers out certain live progress
as_said (replay file None) = record { said = λ p. refl; read = refl }
as_said (replay file (Some out)) = record { said = λ p. refl; read = refl }
as_said (certify file) = record { said = λ p. refl; read = refl }
as_said (judge file None) = record { said = λ p. refl; read = refl }
as_said (judge file (Some every)) = record { said = λ p. refl; read = refl }
as_said (stencil first steps workers live progress) = stencil_read first steps workers live progress
as_said (pipeline k items workers live progress) = pipeline_read k items workers live progress
