use Rattle.std.proofs.Common.{ℕ}
use Rattle.phase_model.specs.Rules.{Story}
use Rattle.table_receipts.proofs.Names.{name_at}
use Rattle.tasks_in_flight.specs.Heard.{nothing, at_start}
use Rattle.tasks_in_flight.specs.Said.{IsSaidOf}
use Rattle.phased_rt.proofs.entry.run_tasks.Given as goal

abbrev pub ghosts-run_over-EP-Ledger : goal.ghosts-run_over-EP-Ledger
ghosts-run_over-EP-Ledger g a = record { name = a.unnamed.blanks.events_by_phaser.name; parts = a.unnamed.blanks.events_by_phaser.parts }

abbrev pub ghosts-run_over-EW-Ledger : goal.ghosts-run_over-EW-Ledger
ghosts-run_over-EW-Ledger g a = record { name = a.unnamed.blanks.events_by_worker.name; parts = a.unnamed.blanks.events_by_worker.parts }

abbrev pub ghosts-run_over-UP-Ledger : goal.ghosts-run_over-UP-Ledger
ghosts-run_over-UP-Ledger g a = record { name = a.unnamed.blanks.up_by_phaser.name; parts = a.unnamed.blanks.up_by_phaser.parts }

abbrev pub ghosts-run_over-UW-Ledger : goal.ghosts-run_over-UW-Ledger
ghosts-run_over-UW-Ledger g a = record { name = a.unnamed.blanks.up_by_worker.name; parts = a.unnamed.blanks.up_by_worker.parts }

abbrev pub ghosts-run_over-DP-Ledger : goal.ghosts-run_over-DP-Ledger
ghosts-run_over-DP-Ledger g a = record { name = a.unnamed.blanks.down_by_phaser.name; parts = a.unnamed.blanks.down_by_phaser.parts }

abbrev pub ghosts-run_over-DW-Ledger : goal.ghosts-run_over-DW-Ledger
ghosts-run_over-DW-Ledger g a = record { name = a.unnamed.blanks.down_by_worker.name; parts = a.unnamed.blanks.down_by_worker.parts }

abbrev pub ghosts-run_over-RM-Ledger : goal.ghosts-run_over-RM-Ledger
ghosts-run_over-RM-Ledger g a = record { name = a.unnamed.blanks.room.name; parts = a.unnamed.blanks.room.parts }

-- each log has the name that it was begun under
abbrev pub ghosts-run_over-L-Logs : goal.ghosts-run_over-L-Logs
ghosts-run_over-L-Logs g a = record { logs = λ n. name_at (λ w. w.name) a.unnamed.logs.items n; limits = a.limits }

-- the root says nothing false at its start; and a body has said at its end what is told of a task
abbrev pub ghosts-run_over-L-Supposing : goal.ghosts-run_over-L-Supposing
ghosts-run_over-L-Supposing g a = record {
  supposed = (stories : ℕ → Story) → g.B.Body.shows a.root 0 nothing (at_start (λ n. 0) stories);
  told = IsSaidOf g.B.Body.shows;
}
