-- What it means that a trace follows a program.
use Rattle.std.specs.Prelude.{ℕ, [], Option}
use Rattle.job_script.specs.Program.{Program}
use Rattle.trace_walk.specs.Laws.{first_wrong}
use Rattle.trace_model.specs.Explained.{past}
use Rattle.trace_model.specs.Run.{Run}

-- the place, counted from 1, of the first event of a trace that is an act and not its task's next one
abbrev pub first_not_next : Program → Run → Option ℕ
first_not_next p r = first_wrong p [] 0 (past r.events)
