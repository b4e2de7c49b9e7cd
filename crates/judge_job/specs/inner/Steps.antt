-- What each step of the code leaves.
use Rattle.std.specs.Prelude.{◌≡◌, ◌⊎◌, ℕ, Bool, true, false, List, ◌∷◌, Option, Result}
use Rattle.phase_modes.specs.declared.refusal.Refusal.TheVariants.{Memory}
use Rattle.job_ends.specs.Ends.{status_of}
use Rattle.job_ends.specs.declared.failure.Failure.TheVariants.{Refused}
use Rattle.job_ends.specs.declared.failure.Status.{Status}
use Rattle.phaser_judge.specs.declared.event.NamedEvent.{NamedEvent}
use Rattle.judge_job.specs.declared.report.Every.{Every}
use Rattle.judge_job.specs.declared.stop.Stop.{Stop}
use Rattle.judge_job.specs.declared.stop.Stop.TheVariants.{Failed}
use Rattle.judge_job.specs.Logs.{Judged, Refusing, at_header}
use Rattle.judge_job.specs.Endings.{TellsAfter, IsReported, SaysWhy, failure_of, is_whole_at}

-- an event was added, or none
abbrev pub IsAddedTo : Bool → List NamedEvent → List NamedEvent → Type 0
IsAddedTo true old new = (e : NamedEvent) × (new ≡ e ∷ old)
IsAddedTo false old new = new ≡ old

-- the report was told of an event that was added, if it was due; nothing was told of no event
abbrev pub TellsAdded : Option Every → Bool → Bool → List NamedEvent → List NamedEvent → Option (List ℕ) → Option (List ℕ) → Type 0
TellsAdded every whole true es fs old new = ((e : NamedEvent) × (fs ≡ e ∷ es)) × TellsAfter every whole fs old new
TellsAdded every whole false es fs old new = (fs ≡ es) × (new ≡ old)

-- line n is the header, or is skipped
abbrev pub IsHeaded : Bool → ℕ → List ℕ → Type 0
IsHeaded true n bytes = (skipped headed : Result Judged Refusing) → at_header n bytes skipped headed ≡ headed
IsHeaded false n bytes = (skipped headed : Result Judged Refusing) → at_header n bytes skipped headed ≡ skipped

-- that judging stopped so is said, and what was judged is reported
pub record StopsAt (stop : Stop) (whole : Bool) (j : Judged) (s : Status) (out out_after faults faults_after : Option (List ℕ)) : Type 0 where
  pub status : s ≡ status_of (failure_of stop)
  pub says : SaysWhy whole j stop faults faults_after
  pub counts : IsReported (is_whole_at stop whole) j.events out out_after

-- so of this stop, or for want of memory
abbrev pub StopsBy : Stop → Bool → Judged → Status → Option (List ℕ) → Option (List ℕ) → Option (List ℕ) → Option (List ℕ) → Type 0
StopsBy stop whole j s out out_after faults faults_after =
    (t : Stop) × ((t ≡ stop) ⊎ (t ≡ Failed (Refused Memory))) × StopsAt t whole j s out out_after faults faults_after
