-- The words that the program takes, by what `clap` says of a command and of its arguments.
use Rattle.std.specs.Prelude.{◌≡◌, ◌⊎◌, ◌++◌, ◌<◌, ◌≤◌, ⊤, ℕ, List, length, [], ◌∷◌, Bool, true, false, not, ◌&&◌, ◌||◌, ◌==◌, if◌then◌else◌, Option, None, Some, option_and_then, option_map, IfSome, codes}
use Rattle.std.specs.Option.{option_map_or}
use Rattle.std.specs.Str.{bytes_eq}
use Rattle.phase_modes.specs.Lists.{is_empty}
use Rattle.clap.specs.declared.builder.action.ArgAction.TheVariants.{SetTrue}
use Rattle.clap.specs.Words.{App, Row, Rule, Text, fault_of, first_of, new_app, new_rule, subcommand_of, with_rule, with_subcommand}
use Rattle.job_ends.specs.declared.failure.Status.{Status}
use Rattle.job_ends.specs.declared.failure.Status.TheVariants as statuses
use Rattle.command_words.specs.Lists.{amount_of, every_in, first_in, items_in, listed_in, most_items, most_steps, number_within, steps_in, workers_in}
use Rattle.command_words.specs.declared.words.Words.{Words}
use Rattle.command_words.specs.declared.words.Words.TheVariants as words
use Rattle.command_words.specs.declared.command_line.Job.{Job}
use Rattle.command_words.specs.declared.command_line.Job.TheVariants as jobs
use Rattle.command_words.specs.declared.command_line.NoJob.{NoJob}
use Rattle.command_words.specs.declared.command_line.NoJob.TheVariants.{Arguments, Missing, BadValue, Memory}
use Rattle.command_words.specs.declared.command_line.Every.{Every as Often}
use Rattle.command_words.specs.declared.command_line.Value.{Value}
use Rattle.command_words.specs.declared.command_line.Value.TheVariants.{Picks, First, Steps, LiveSteps, Stages, Items, LiveItems, Workers, Every, Live, Progress}

-- ---- the commands

-- FILE, which has to be there
abbrev pub file_rule : Rule
file_rule = record (new_rule (codes "file")) { required = true; value_names = 1 }

-- `--NAME VALUE`, which needn't be there
abbrev pub option_rule : Text → Rule
option_rule name = record (new_rule name) { long = Some name; value_names = 1 }

-- `--NAME VALUE`, which has to be there
abbrev pub needed_rule : Text → Rule
needed_rule name = record (option_rule name) { required = true }

-- `--NAME`, which needn't be there
abbrev pub flag_rule : Text → Rule
flag_rule name = record (new_rule name) { long = Some name; action = Some SetTrue }

-- `events FILE`
abbrev pub events_app : App
events_app = with_rule (new_app (codes "events")) file_rule

-- `schedule FILE [--picks LIST] [--trace OUT]`
abbrev pub schedule_app : App
schedule_app =
    with_rule (with_rule (with_rule (new_app (codes "schedule")) file_rule) (option_rule (codes "picks")))
    (option_rule (codes "trace"))

-- `run FILE [--workers N] [--trace OUT]`
abbrev pub traced_app : App
traced_app =
    with_rule (with_rule (with_rule (new_app (codes "run")) file_rule) (option_rule (codes "workers")))
    (option_rule (codes "trace"))

-- `run FILE [--workers N] [--trace OUT] [--certain] [--live] [--progress]`
abbrev pub run_app : App
run_app =
    with_rule (with_rule (with_rule traced_app (flag_rule (codes "certain"))) (flag_rule (codes "live")))
    (flag_rule (codes "progress"))

-- `replay FILE [--upgrade OUT]`
abbrev pub replay_app : App
replay_app = with_rule (with_rule (new_app (codes "replay")) file_rule) (option_rule (codes "upgrade"))

-- `certify FILE`
abbrev pub certify_app : App
certify_app = with_rule (new_app (codes "certify")) file_rule

-- `judge FILE [--every N]`
abbrev pub judge_app : App
judge_app = with_rule (with_rule (new_app (codes "judge")) file_rule) (option_rule (codes "every"))

-- `NAME .. [--workers N] [--live] [--progress]`
abbrev pub with_workers : App → App
with_workers app =
    with_rule (with_rule (with_rule app (option_rule (codes "workers"))) (flag_rule (codes "live")))
    (flag_rule (codes "progress"))

-- `stencil --first LIST --steps S [--workers N] [--live] [--progress]`
abbrev pub stencil_app : App
stencil_app =
    with_workers (with_rule (with_rule (new_app (codes "stencil")) (needed_rule (codes "first")))
    (needed_rule (codes "steps")))

-- `pipeline --stages K --items N [--workers N] [--live] [--progress]`
abbrev pub pipeline_app : App
pipeline_app =
    with_workers (with_rule (with_rule (new_app (codes "pipeline")) (needed_rule (codes "stages")))
    (needed_rule (codes "items")))

-- the program, which has a version, has to be given a subcommand, and has no subcommand `help`
abbrev pub bare_app : App
bare_app = record (new_app (codes "phaser_run")) {
  top = record (new_app (codes "phaser_run")).top {
    has_version = true;
    subcommand_required = true;
    disable_help_subcommand = true;
  };
}

-- the commands that run a program
abbrev pub running_app : App
running_app =
    with_subcommand (with_subcommand (with_subcommand bare_app events_app.top) schedule_app.top) run_app.top

-- the commands of a file
abbrev pub filed_app : App
filed_app =
    with_subcommand (with_subcommand (with_subcommand running_app replay_app.top) certify_app.top) judge_app.top

abbrev pub program_app : App
program_app = with_subcommand (with_subcommand filed_app stencil_app.top) pipeline_app.top

-- ---- what words ask for

-- a command with its words
pub data Asked : Type 0 where
  events : Text → Asked
  schedule : Text → Option Text → Option Text → Asked
  -- FILE, the workers, OUT, and whether the flags `--certain`, `--live` and `--progress` stand there
  run : Text → Option Text → Option Text → Bool → Bool → Bool → Asked
  replay : Text → Option Text → Asked
  certify : Text → Asked
  judge : Text → Option Text → Asked
  -- LIST, S, the workers, and whether the flags `--live` and `--progress` stand there
  stencil : Text → Text → Option Text → Bool → Bool → Asked
  -- K, the items, the workers, and the same of these flags
  pipeline : Text → Text → Option Text → Bool → Bool → Asked

-- a command with its words, of which lists and numbers are what they spell
pub data Work : Type 0 where
  answers : Text → Work
  -- without a list there are no picks
  runs : Text → List ℕ → Option Text → Work
  -- FILE, the workers, OUT, and whether FILE has to be certain
  works : Text → ℕ → Option Text → Bool → Work
  -- FILE, the workers, and whether the run says how fast it goes; no events of it are kept
  lives : Text → ℕ → Bool → Work
  -- FILE, OUT
  replays : Text → Option Text → Work
  certifies : Text → Work
  -- FILE, and after how many events or seconds the report is told each time
  judges : Text → Option Often → Work
  -- the first values, the steps, the workers
  cells : List ℕ → ℕ → ℕ → Work
  -- the same, and whether the run says how fast it goes; no events of it are kept
  live_cells : List ℕ → ℕ → ℕ → Bool → Work
  -- the stages, the items, the workers
  stages : ℕ → ℕ → ℕ → Work
  -- the same, and whether the run says how fast it goes; no events of it are kept
  live_stages : ℕ → ℕ → ℕ → Bool → Work

-- the program FILE, with the words that needn't be there
abbrev pub to_schedule : List Row → Text → Asked
to_schedule rows file = schedule file (first_of (codes "picks") rows) (first_of (codes "trace") rows)

-- a flag that stands among the words has the value `true`
abbrev pub has_flag : Text → List Row → Bool
has_flag name rows = option_map_or (λ value. bytes_eq value (codes "true")) (first_of name rows) false

abbrev pub to_run : List Row → Text → Asked
to_run rows file =
    run file (first_of (codes "workers") rows) (first_of (codes "trace") rows) (has_flag (codes "certain") rows)
    (has_flag (codes "live") rows) (has_flag (codes "progress") rows)

abbrev pub to_replay : List Row → Text → Asked
to_replay rows file = replay file (first_of (codes "upgrade") rows)

abbrev pub to_judge : List Row → Text → Asked
to_judge rows file = judge file (first_of (codes "every") rows)

-- what a command of a file is asked for
abbrev pub filed_among : Text → List Row → Option Asked
filed_among name rows =
    if bytes_eq name (codes "events") then option_map events (first_of (codes "file") rows)
    else (if bytes_eq name (codes "schedule") then option_map (to_schedule rows) (first_of (codes "file") rows)
    else (if bytes_eq name (codes "run") then option_map (to_run rows) (first_of (codes "file") rows)
    else (if bytes_eq name (codes "replay") then option_map (to_replay rows) (first_of (codes "file") rows)
    else (if bytes_eq name (codes "certify") then option_map certify (first_of (codes "file") rows)
    else (if bytes_eq name (codes "judge") then option_map (to_judge rows) (first_of (codes "file") rows)
    else None)))))

-- what a kernel is asked for, by what it needs
abbrev pub of_both : (Text → Text → Option Text → Asked) → Option Text → Option Text → Option Text → Option Asked
of_both kernel (Some a) (Some b) workers = Some (kernel a b workers)
of_both kernel _ _ workers = None

-- a kernel, with the flags that stand there
abbrev pub flagged :
    (Text → Text → Option Text → Bool → Bool → Asked) → List Row → Text → Text → Option Text → Asked
flagged kernel rows a b workers =
    kernel a b workers (has_flag (codes "live") rows) (has_flag (codes "progress") rows)

abbrev pub stencil_among : List Row → Option Asked
stencil_among rows =
    of_both (flagged stencil rows) (first_of (codes "first") rows) (first_of (codes "steps") rows)
    (first_of (codes "workers") rows)

abbrev pub pipeline_among : List Row → Option Asked
pipeline_among rows =
    of_both (flagged pipeline rows) (first_of (codes "stages") rows) (first_of (codes "items") rows)
    (first_of (codes "workers") rows)

-- what the subcommand of this name is asked for
abbrev pub asked_among : Text × List Row → Option Asked
asked_among p =
    if bytes_eq p.0 (codes "stencil") then stencil_among p.1
    else (if bytes_eq p.0 (codes "pipeline") then pipeline_among p.1 else filed_among p.0 p.1)

-- what the arguments ask for
unfoldable pub asked_of : List Text → Option Asked
asked_of arguments = option_and_then asked_among (subcommand_of program_app arguments)

-- the same of arguments that are a command's and no more: no step of their reading is at fault
unfoldable pub asked_in : List Text → Option Asked
asked_in arguments = if is_empty (fault_of program_app arguments) then asked_of arguments else None

-- a run whose events aren't kept has no trace, and isn't told by a certificate; of another no progress is said
abbrev pub bad_flag : Option Text → Bool → Bool → Bool → Option Value
bad_flag None false true progress = None
bad_flag None true true progress = Some Live
bad_flag (Some trace) certain true progress = Some Live
bad_flag trace certain false true = Some Progress
bad_flag trace certain false false = None

-- the run of these words, whose events are kept or not
abbrev pub run_work : Text → Option Text → Bool → Bool → Bool → ℕ → Work
run_work file trace certain true progress n = lives file n progress
run_work file trace certain false progress n = works file n trace certain

-- the same, if no flag is bad and the workers are a number
abbrev pub run_of : Option Value → Option ℕ → (ℕ → Work) → Option Work
run_of None (Some n) work = Some (work n)
run_of _ _ work = None

-- the kernel of these values, if each is one and no flag is bad
abbrev pub kernel_of : {A : Type 0} → Option Value → Option A → Option ℕ → Option ℕ → (A → ℕ → ℕ → Work) → Option Work
kernel_of None (Some a) (Some b) (Some workers) work = Some (work a b workers)
kernel_of _ _ _ _ work = None

-- whose events are kept or not
abbrev pub stencil_work : Bool → Bool → List ℕ → ℕ → ℕ → Work
stencil_work true progress first steps workers = live_cells first steps workers progress
stencil_work false progress first steps workers = cells first steps workers

abbrev pub pipeline_work : Bool → Bool → ℕ → ℕ → ℕ → Work
pipeline_work true progress k items workers = live_stages k items workers progress
pipeline_work false progress k items workers = stages k items workers

-- the work that is asked for; a bad list, number or flag asks for none
abbrev pub work_for : Asked → Option Work
work_for (events file) = Some (answers file)
work_for (schedule file list trace) = option_map (λ picks. runs file picks trace) (listed_in list)
work_for (run file workers trace certain live progress) =
    run_of (bad_flag trace certain live progress) (workers_in workers)
    (run_work file trace certain live progress)
work_for (replay file upgrade) = Some (replays file upgrade)
work_for (certify file) = Some (certifies file)
work_for (judge file every) = option_map (λ n. judges file n) (every_in every)
work_for (stencil first steps workers live progress) =
    kernel_of (bad_flag None false live progress) (first_in first) (steps_in live steps) (workers_in workers)
    (stencil_work live progress)
work_for (pipeline k items workers live progress) =
    kernel_of (bad_flag None false live progress) (number_within 1 15 k) (items_in live items) (workers_in workers)
    (pipeline_work live progress)

-- the value is named if it is none
abbrev pub unless : {X : Type 0} → Value → Option X → Option Value
unless v None = Some v
unless v (Some x) = None

abbrev pub earlier : Option Value → Option Value → Option Value
earlier (Some v) o = Some v
earlier None o = o

-- what the steps and the items are to be, by whether events are kept
abbrev pub steps_value : Bool → Value
steps_value live = if live then LiveSteps else Steps

abbrev pub items_value : Bool → Value
items_value live = if live then LiveItems else Items

-- the first of its values that is none, or a flag of its that is bad
abbrev pub first_bad : Asked → Option Value
first_bad (events file) = None
first_bad (schedule file list trace) = unless Picks (listed_in list)
first_bad (run file workers trace certain live progress) =
    earlier (unless Workers (workers_in workers)) (bad_flag trace certain live progress)
first_bad (replay file upgrade) = None
first_bad (certify file) = None
first_bad (judge file every) = unless Every (every_in every)
first_bad (stencil first steps workers live progress) =
    earlier (unless First (first_in first))
    (earlier (unless (steps_value live) (steps_in live steps))
    (earlier (unless Workers (workers_in workers)) (bad_flag None false live progress)))
first_bad (pipeline k items workers live progress) =
    earlier (unless Stages (number_within 1 15 k))
    (earlier (unless (items_value live) (items_in live items))
    (earlier (unless Workers (workers_in workers)) (bad_flag None false live progress)))

-- its numbers are within what is allowed
abbrev pub IsInRange : Work → Type 0
IsInRange (answers file) = ⊤
IsInRange (runs file picks trace) = ⊤
IsInRange (works file workers trace certain) = (0 < workers) × (workers ≤ 16)
IsInRange (lives file workers progress) = (0 < workers) × (workers ≤ 16)
IsInRange (replays file upgrade) = ⊤
IsInRange (certifies file) = ⊤
IsInRange (judges file every) = IfSome every (λ e. 0 < amount_of e)
IsInRange (cells first steps workers) =
    (length first ≤ 16) × (steps ≤ most_steps false) × (0 < workers) × (workers ≤ 16)
IsInRange (live_cells first steps workers progress) =
    (length first ≤ 16) × (steps ≤ most_steps true) × (0 < workers) × (workers ≤ 16)
IsInRange (stages k items workers) =
    (0 < k) × (k ≤ 15) × (items ≤ most_items false) × (0 < workers) × (workers ≤ 16)
IsInRange (live_stages k items workers progress) =
    (0 < k) × (k ≤ 15) × (items ≤ most_items true) × (0 < workers) × (workers ≤ 16)

-- FILE of a work
abbrev pub file_of : Work → Option Text
file_of (answers file) = Some file
file_of (runs file picks trace) = Some file
file_of (works file workers trace certain) = Some file
file_of (lives file workers progress) = Some file
file_of (replays file upgrade) = Some file
file_of (certifies file) = Some file
file_of (judges file every) = Some file
file_of (cells first steps workers) = None
file_of (live_cells first steps workers progress) = None
file_of (stages k items workers) = None
file_of (live_stages k items workers progress) = None

-- the work that the arguments name
abbrev pub work_in : List Text → Option Work
work_in arguments = option_and_then work_for (asked_in arguments)

-- ---- what they say

abbrev pub asked_by : Words → Asked
asked_by (words.Events file) = events file.now
asked_by (words.Schedule file picks trace) =
    schedule file.now (option_map (λ t. t.now) picks) (option_map (λ t. t.now) trace)
asked_by (words.Run file workers trace certain live progress) =
    run file.now (option_map (λ t. t.now) workers) (option_map (λ t. t.now) trace) certain live progress
asked_by (words.Replay file upgrade) = replay file.now (option_map (λ t. t.now) upgrade)
asked_by (words.Certify file) = certify file.now
asked_by (words.Judge file every) = judge file.now (option_map (λ t. t.now) every)
asked_by (words.Stencil first steps workers live progress) =
    stencil first.now steps.now (option_map (λ t. t.now) workers) live progress
asked_by (words.Pipeline k items workers live progress) =
    pipeline k.now items.now (option_map (λ t. t.now) workers) live progress

abbrev pub work_of : Job → Work
work_of (jobs.Events file) = answers file.now
work_of (jobs.Schedule file picks trace) = runs file.now picks.items (option_map (λ t. t.now) trace)
work_of (jobs.Run file workers trace certain) = works file.now workers (option_map (λ t. t.now) trace) certain
work_of (jobs.Live file workers progress) = lives file.now workers progress
work_of (jobs.Replay file upgrade) = replays file.now (option_map (λ t. t.now) upgrade)
work_of (jobs.Certify file) = certifies file.now
work_of (jobs.Judge file every) = judges file.now every
work_of (jobs.Stencil first steps workers) = cells first.items steps workers
work_of (jobs.LiveStencil first steps workers progress) = live_cells first.items steps workers progress
work_of (jobs.Pipeline k items workers) = stages k items workers
work_of (jobs.LivePipeline k items workers progress) = live_stages k items workers progress

-- a word is `-`, or does not begin with a hyphen
abbrev pub is_plain : Text → Bool
is_plain [] = true
is_plain (c ∷ cs) = not (c == 45) || is_empty cs

-- bad words and help end with 2, want of memory with 1
abbrev pub no_job_status : NoJob → Status
no_job_status (Arguments e) = statuses.Usage
no_job_status Missing = statuses.Usage
no_job_status (BadValue v) = statuses.Usage
no_job_status Memory = statuses.Refused

-- what a value is to be, or why a flag is bad, as its line says it
abbrev pub value_text : Value → List ℕ
value_text Picks = codes "LIST is 1 to 10,000 numbers of 0 to 4294967295 with commas between them"
value_text First = codes "LIST is 1 to 16 numbers of 0 to 1000000 with commas between them"
value_text Steps = codes "S is a number of 0 to 100"
value_text LiveSteps = codes "S is a number of 0 to 4294967295"
value_text Stages = codes "K is a number of 1 to 15"
value_text Items = codes "the items are a number of 0 to 100"
value_text LiveItems = codes "the items are a number of 0 to 2000000000"
value_text Workers = codes "the workers are a number of 1 to 16"
value_text Every = codes "N is a number of 1 to 18446744073709551615, or one with an s after it"
value_text Live = codes "--live keeps no events: leave --trace and --certain out"
value_text Progress = codes "--progress goes with --live"

-- reading a value fails for want of memory, or because it is none
abbrev pub IsOfValue : {X : Type 0} → Value → Option X → NoJob → Type 0
IsOfValue v read e = (e ≡ Memory) ⊎ ((e ≡ BadValue v) × (read ≡ None))

-- there is no job for want of memory, or because a value is none: the first of them is named
abbrev pub IsNoJobFor : Asked → NoJob → Type 0
IsNoJobFor asked e = (e ≡ Memory) ⊎ ((v : Value) × (e ≡ BadValue v) × (first_bad asked ≡ Some v))

-- ---- a command whose options stand after FILE

-- an option with its value, if it has one
abbrev pub option_words : Text → Option Text → List Text
option_words name None = []
option_words name (Some value) = name ∷ value ∷ []

-- a flag, if it is wanted
abbrev pub flag_words : Text → Bool → List Text
flag_words name is_wanted = if is_wanted then name ∷ [] else []

-- the program's name, the command's, FILE, and then the options
abbrev pub plain_words : Text → Asked → List Text
plain_words program (events file) = program ∷ codes "events" ∷ file ∷ []
plain_words program (schedule file list out) =
    program ∷ codes "schedule" ∷ file
    ∷ (option_words (codes "--picks") list ++ option_words (codes "--trace") out)
plain_words program (run file workers out certain live progress) =
    program ∷ codes "run" ∷ file
    ∷ (option_words (codes "--workers") workers
    ++ (option_words (codes "--trace") out
    ++ (flag_words (codes "--certain") certain
    ++ (flag_words (codes "--live") live ++ flag_words (codes "--progress") progress))))
plain_words program (replay file out) =
    program ∷ codes "replay" ∷ file ∷ option_words (codes "--upgrade") out
plain_words program (certify file) = program ∷ codes "certify" ∷ file ∷ []
plain_words program (judge file every) =
    program ∷ codes "judge" ∷ file ∷ option_words (codes "--every") every
plain_words program (stencil first steps workers live progress) =
    program ∷ codes "stencil" ∷ codes "--first" ∷ first ∷ codes "--steps" ∷ steps
    ∷ (option_words (codes "--workers") workers
    ++ (flag_words (codes "--live") live ++ flag_words (codes "--progress") progress))
plain_words program (pipeline k items workers live progress) =
    program ∷ codes "pipeline" ∷ codes "--stages" ∷ k ∷ codes "--items" ∷ items
    ∷ (option_words (codes "--workers") workers
    ++ (flag_words (codes "--live") live ++ flag_words (codes "--progress") progress))

-- no word is taken for an option
abbrev pub is_plainly_asked : Asked → Bool
is_plainly_asked (events file) = is_plain file
is_plainly_asked (schedule file list out) =
    is_plain file && (option_map_or is_plain list true && option_map_or is_plain out true)
is_plainly_asked (run file workers out certain live progress) =
    is_plain file && (option_map_or is_plain workers true && option_map_or is_plain out true)
is_plainly_asked (replay file out) = is_plain file && option_map_or is_plain out true
is_plainly_asked (certify file) = is_plain file
is_plainly_asked (judge file every) = is_plain file && option_map_or is_plain every true
is_plainly_asked (stencil first steps workers live progress) =
    is_plain first && (is_plain steps && option_map_or is_plain workers true)
is_plainly_asked (pipeline k items workers live progress) =
    is_plain k && (is_plain items && option_map_or is_plain workers true)
