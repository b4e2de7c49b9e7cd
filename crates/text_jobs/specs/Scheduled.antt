-- What running a program's text writes, and how it fails.
use Rattle.std.specs.Prelude.{◌≡◌, ℕ, List, map, length, true, Ok, Err, ⊤}
use Rattle.std.specs.List.{range_with_len}
use Rattle.phase_modes.specs.declared.refusal.Refusal.TheVariants.{Memory, BadText}
use Rattle.trace_model.specs.Run.{Run}
use Rattle.trace_model.specs.Explained.{is_explained}
use Rattle.job_script.specs.Program.{Program}
use Rattle.trace_walk.specs.Follows.{follows}
use Rattle.trace_walk.specs.Picks.{run_within}
use Rattle.job_ends.specs.declared.failure.Failure.{Failure}
use Rattle.job_ends.specs.declared.failure.Failure.TheVariants.{Refused, Read, Write}
use Rattle.text_jobs.specs.Texts.{program_spelled, history}

-- the trace is one of a run of the program by the picks
pub record IsRunOf (p : Program) (picks : List ℕ) (t : Run) : Type 0 where
  -- after the picks the tasks went on in so many rounds
  pub rounds : ℕ
  pub picked : history t ≡ run_within rounds p picks
  pub limits : t.limits ≡ p.limits
  -- a world makes each of its events there, and the run has ended
  pub explained : is_explained t ≡ true
  pub follows_it : follows p (history t) ≡ true
  -- its tickets are 1, 2, 3 and so on
  pub tickets : map (λ e. e.0) t.events ≡ range_with_len 1 (length t.events)

-- the bytes spell a program, and this is known of the trace of a run of it
abbrev pub Runs : List ℕ → List ℕ → (Program → Run → Type 0) → Type 0
Runs bytes picks P =
    (p : Program) × (t : Run) × (program_spelled bytes ≡ Ok p) × IsRunOf p picks t × P p t

-- running these bytes fails for want of memory, by their first fault, or by a write for a program that has none
abbrev pub IsOfSchedule : List ℕ → Failure → Type 0
IsOfSchedule bytes (Refused Memory) = ⊤
IsOfSchedule bytes (Refused (BadText p)) = program_spelled bytes ≡ Err p
IsOfSchedule bytes (Refused _) = ⊥
IsOfSchedule bytes Read = ⊥
IsOfSchedule bytes Write = (p : Program) × (program_spelled bytes ≡ Ok p)
