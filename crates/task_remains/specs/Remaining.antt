-- What a run leaves.
use Rattle.std.specs.Prelude.{◌≡◌, ◌≢◌, ℕ, ◌+◌, List, [], ◌∷◌, length, All}
use Rattle.std.specs.List.{sum as total}
use Rattle.phase_modes.specs.declared.limits.Limits.{Limits}
use Rattle.phase_model.specs.Amounts.{Amount}
use Rattle.share_book.specs.declared.gathering.Totals.{Totals}
use Rattle.share_book.specs.Accounts.{sum, amount_of}
use Rattle.phaser_cell.specs.Telling.{ArePhaserParts}
use Rattle.scope_locks.specs.Telling.{AreFinishParts}
use Rattle.trace_model.specs.Projections.{log, AreOf}
use Rattle.trace_model.specs.Run.{Entry}

-- part by part the entries are the log of the task of this number: what it began, was refused and gave up
abbrev pub AreLogsOf : List ℕ → List (List Entry) → Type 0
AreLogsOf [] [] = Unit {0}
AreLogsOf (t ∷ ts) (p ∷ ps) = AreOf (log t) p × AreLogsOf ts ps
AreLogsOf _ _ = ⊥

-- no two of the numbers are the same
abbrev pub AreDifferent : List ℕ → Type 0
AreDifferent [] = Unit {0}
AreDifferent (t ∷ ts) = All (λ u. u ≢ t) ts × AreDifferent ts

-- there is a part for each phaser and each finish, which tells a legal history as locks do, and logs, each of a task of
-- its own: as many as tasks have ended in the finishes, and the root's; the totals are what the phasers' histories add
-- up to
pub record AreRemains (l : Limits) (phasers finishes logs : List (List Entry)) (t : Totals) : Type 0 where
  pub sums : List Amount
  pub ended : List ℕ
  pub owners : List ℕ
  pub of_phasers : ArePhaserParts 0 phasers sums
  pub of_finishes : AreFinishParts 0 finishes ended
  pub of_tasks : AreLogsOf owners logs
  pub of_each : AreDifferent owners
  pub all_phasers : length phasers ≡ l.phasers
  pub all_finishes : length finishes ≡ l.finishes
  pub all_logs : length logs ≡ total ended + 1
  pub added : amount_of t ≡ sum sums
