-- What running a program's text by workers writes, and how it fails.
use Rattle.std.specs.Prelude.{◌≡◌, ℕ, List, true, Ok, Err, ⊤}
use Rattle.phase_modes.specs.declared.refusal.Refusal.TheVariants.{Memory, BadText, NotExplained}
use Rattle.trace_model.specs.Run.{Run}
use Rattle.trace_model.specs.Explained.{is_explained}
use Rattle.job_script.specs.Program.{Program}
use Rattle.trace_walk.specs.Follows.{follows}
use Rattle.job_ends.specs.declared.failure.Failure.{Failure}
use Rattle.job_ends.specs.declared.failure.Failure.TheVariants.{Refused, Read, Write}
use Rattle.text_jobs.specs.Texts.{program_spelled, history}

-- the trace is one of a run of the program
pub record IsRunOf (p : Program) (t : Run) : Type 0 where
  pub limits : t.limits ≡ p.limits
  -- a world makes each of its events there, and the run has ended
  pub explained : is_explained t ≡ true
  pub follows_it : follows p (history t) ≡ true

-- the bytes spell a program, and this is known of the trace of a run of it
abbrev pub Runs : List ℕ → (Program → Run → Type 0) → Type 0
Runs bytes P = (p : Program) × (t : Run) × (program_spelled bytes ≡ Ok p) × IsRunOf p t × P p t

-- the bytes spell a program
abbrev pub Spells : List ℕ → Type 0
Spells bytes = (p : Program) × (program_spelled bytes ≡ Ok p)

-- running these bytes fails for want of memory, by their first fault, or, for a program that has none, by a run
-- that isn't explained or doesn't follow it, or by a write
abbrev pub IsOfRun : List ℕ → Failure → Type 0
IsOfRun bytes (Refused Memory) = ⊤
IsOfRun bytes (Refused (BadText p)) = program_spelled bytes ≡ Err p
IsOfRun bytes (Refused (NotExplained k)) = Spells bytes
IsOfRun bytes (Refused _) = ⊥
IsOfRun bytes Read = ⊥
IsOfRun bytes Write = Spells bytes
