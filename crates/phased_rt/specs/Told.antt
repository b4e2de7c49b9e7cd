-- What a run's trace was put together from.
use Rattle.std.specs.Prelude.{◌≡◌, ℕ, ◌+◌, List, [], ◌∷◌, ◌++◌, length}
use Rattle.std.specs.List.{sum as total}
use Rattle.phase_modes.specs.declared.limits.Limits.{Limits}
use Rattle.phase_model.specs.Amounts.{Amount}
use Rattle.share_book.specs.declared.gathering.Totals.{Totals}
use Rattle.share_book.specs.Accounts.{sum, amount_of}
use Rattle.phaser_cell.specs.Telling.{ArePhaserParts}
use Rattle.scope_locks.specs.Telling.{AreFinishParts}
use Rattle.trace_model.specs.Parts.{IsTraceOf}
use Rattle.trace_model.specs.Run.{Entry}
use Rattle.task_remains.specs.Remaining.{AreLogsOf, AreDifferent}

-- the stories that these parts tell, of the phasers from n on, have these limits
abbrev pub HaveLimits : (l : Limits) (n : ℕ) (ps : List (List Entry)) (sums : List Amount) → ArePhaserParts n ps sums → Type 0
HaveLimits l n [] [] are = Unit {0}
HaveLimits l n (p ∷ ps) (a ∷ sums) are = (are.0.story.limits ≡ l) × HaveLimits l (n + 1) ps sums are.1
HaveLimits l n _ _ are = ⊥

-- the histories that these parts tell, of the finishes from n on, have this limit of task numbers
abbrev pub HaveTasks : (tasks n : ℕ) (ps : List (List Entry)) (ended : List ℕ) → AreFinishParts n ps ended → Type 0
HaveTasks tasks n [] [] are = Unit {0}
HaveTasks tasks n (p ∷ ps) (k ∷ ended) are = (are.0.tasks ≡ tasks) × HaveTasks tasks (n + 1) ps ended are.1
HaveTasks tasks n _ _ are = ⊥

-- the trace is one of a part for each phaser and each finish, which tells a history as locks do, legal under the run's
-- limits, and of logs, each of a task of its own: as many as tasks have ended in the finishes, and the root's; the
-- totals are what the phasers' histories add up to
pub record IsToldBy (l : Limits) (es : List Entry) (t : Totals) : Type 0 where
  pub phasers : List (List Entry)
  pub sums : List Amount
  pub finishes : List (List Entry)
  pub ended : List ℕ
  pub logs : List (List Entry)
  pub owners : List ℕ
  pub merged : IsTraceOf ((phasers ++ finishes) ++ logs) es
  pub of_phasers : ArePhaserParts 0 phasers sums
  pub limited : HaveLimits l 0 phasers sums of_phasers
  pub of_finishes : AreFinishParts 0 finishes ended
  pub numbered : HaveTasks l.tasks 0 finishes ended of_finishes
  pub of_tasks : AreLogsOf owners logs
  pub of_each : AreDifferent owners
  pub all_phasers : length phasers ≡ l.phasers
  pub all_finishes : length finishes ≡ l.finishes
  pub all_logs : length logs ≡ total ended + 1
  pub added : amount_of t ≡ sum sums
