-- The words of the worked examples: how a program is written down, and what its run gives.
use Rattle.std.specs.Prelude.{ℕ, ◌≡◌, Bool, true, ◌&&◌, List, [], ◌∷◌, Option}
use Rattle.phase_modes.specs.Limits.{default_limits}
use Rattle.phase_modes.specs.declared.limits.Limits.{Limits}
use Rattle.phase_modes.specs.declared.reg.Mode.{Mode}
use Rattle.job_script.specs.declared.head.Head.{Head}
use Rattle.job_script.specs.declared.head.Named.{Named}
use Rattle.job_script.specs.Acts.{Act, Acts, no_acts, act}
use Rattle.job_script.specs.Program.{Program}
use Rattle.world_model.specs.declared.event.WorldEvent.{WorldEvent}
use Rattle.world_model.specs.declared.report.FinishLine.{FinishLine}
use Rattle.world_model.specs.declared.report.TaskLine.{TaskLine}
use Rattle.world_model.specs.ExampleWords.{no_phasers}
use Rattle.world_model.specs.Replies.{is_legal_world}
use Rattle.world_model.specs.Report.{Report, report_of}
use Rattle.world_model.specs.Tasks.{is_ended}
use Rattle.trace_walk.specs.Follows.{follows}
use Rattle.trace_walk.specs.Picks.{run_within}

-- ---- programs

-- a list of acts
abbrev pub listed : List Act → Acts
listed [] = no_acts
listed (a ∷ more) = act a.head a.body (listed more)

-- an act with no acts inside
abbrev pub plain : Head → Act
plain h = record { head = h; body = no_acts }

-- an act with these inside
abbrev pub within : Head → List Act → Act
within h inner = record { head = h; body = listed inner }

-- the phaser of a name, in a mode
abbrev pub on : ℕ → Mode → Named
on name m = record { name = name; mode = m }

-- a program with these acts and the default limits
abbrev pub program : List Act → Program
program main = record { limits = default_limits; main = listed main }

-- the same with other limits
abbrev pub with_limits : Limits → List Act → Program
with_limits l main = record { limits = l; main = listed main }

-- ---- what a run gives

-- sixty rounds are enough for each example
abbrev pub run : Program → List ℕ → List WorldEvent
run p picks = run_within 60 p picks

-- the run ended, each of its events was accepted, and it follows the program
abbrev pub is_whole : Program → List WorldEvent → Bool
is_whole p w = is_ended 0 w && is_legal_world p.limits w && follows p w

-- with these picks the program's run is whole, and this is its report
abbrev pub ComesTo : Program → List ℕ → Report → Type 0
ComesTo p picks r = (report_of p.limits (run p picks) ≡ r) × (is_whole p (run p picks) ≡ true)

-- the line of the root alone
abbrev pub of_root : Option ℕ → TaskLine
of_root r = record { task = 0; refused = r }

-- a run of the root alone, without phasers
abbrev pub root_alone : Option ℕ → List FinishLine → Report
root_alone r finishes = no_phasers (of_root r ∷ []) finishes
