-- The words of the command line, and the job that they name.
use Rattle.std.specs.Prelude.{◌≡◌, ℕ, ◌≤◌, List, [], ◌∷◌, codes}
use Rattle.std.specs.Str.Parse.{IsNumeral, digits_value, without_leading_plus}
use Rattle.phaser_bench.specs.declared.phasers.job.CoreJob.{CoreJob}
use Rattle.phaser_bench.specs.declared.locks.job.LocksJob.{LocksJob}
use Rattle.phaser_bench.specs.declared.worlds.job.WorldsJob.{WorldsJob}
use Rattle.phaser_bench.specs.declared.job.Job.{Job}
use Rattle.phaser_bench.specs.declared.job.Job.TheVariants.{Core, Locks, Receipts, Worlds}
use Rattle.phaser_bench.specs.CoreKind.{name_of as core_name}
use Rattle.phaser_bench.specs.LocksKind.{name_of as locks_name}
use Rattle.phaser_bench.specs.WorldsKind.{name_of as worlds_name}

-- decimal digits, which a `+` may lead
abbrev pub IsNumber : List ℕ → Type 0
IsNumber argument = IsNumeral 10 (without_leading_plus argument)

-- the number that the digits write
abbrev pub number_in : List ℕ → ℕ
number_in argument = digits_value 10 (without_leading_plus argument)

-- a number from the first of these to the second
abbrev pub IsNumberFrom : ℕ → ℕ → List ℕ → Type 0
IsNumberFrom least most argument =
    IsNumber argument × (least ≤ number_in argument) × (number_in argument ≤ most)

-- the argument spells this number
abbrev pub Spells : ℕ → ℕ → ℕ → List ℕ → Type 0
Spells number least most argument = IsNumberFrom least most argument × (number_in argument ≡ number)

-- the words are core KIND TASKS PHASERS of the job
abbrev pub NamesCore : CoreJob → List (List ℕ) → Type 0
NamesCore job (what ∷ kind ∷ tasks ∷ phasers ∷ []) =
    (what ≡ codes "core")
    × (kind ≡ core_name job.kind)
    × Spells job.tasks 1 256 tasks
    × Spells job.phasers 1 1000 phasers
NamesCore _ _ = ⊥

-- the words are this name and KIND TASKS PHASES PHASERS THREADS of the job
abbrev pub NamesTable : List ℕ → LocksJob → List (List ℕ) → Type 0
NamesTable name job (what ∷ kind ∷ tasks ∷ phases ∷ phasers ∷ threads ∷ []) =
    (what ≡ name)
    × (kind ≡ locks_name job.kind)
    × Spells job.tasks 1 256 tasks
    × Spells job.phases 1 32768 phases
    × Spells job.phasers 1 32 phasers
    × Spells job.threads 1 2 threads
NamesTable _ _ _ = ⊥

-- the words are worlds KIND TURNS WORLDS of the job
abbrev pub NamesWorlds : WorldsJob → List (List ℕ) → Type 0
NamesWorlds job (what ∷ kind ∷ turns ∷ worlds ∷ []) =
    (what ≡ codes "worlds")
    × (kind ≡ worlds_name job.kind)
    × Spells job.turns 0 65536 turns
    × Spells job.worlds 1 1000 worlds
NamesWorlds _ _ = ⊥

-- the words name the job
abbrev pub Names : Job → List (List ℕ) → Type 0
Names (Core job) words = NamesCore job words
Names (Locks job) words = NamesTable (codes "locks") job words
Names (Receipts job) words = NamesTable (codes "receipts") job words
Names (Worlds job) words = NamesWorlds job words
