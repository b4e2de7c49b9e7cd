use Rattle.table_receipts.proofs.Names.{name_at}
use Rattle.lock_tests.proofs.run_tables.answers_as_worked_out.Given as goal

abbrev pub ghosts-calls_over-EP-Ledger : goal.ghosts-calls_over-EP-Ledger
ghosts-calls_over-EP-Ledger g a = record { name = a.blanks.events_by_phaser.name; parts = a.blanks.events_by_phaser.parts }

abbrev pub ghosts-calls_over-EW-Ledger : goal.ghosts-calls_over-EW-Ledger
ghosts-calls_over-EW-Ledger g a = record { name = a.blanks.events_by_worker.name; parts = a.blanks.events_by_worker.parts }

abbrev pub ghosts-calls_over-UP-Ledger : goal.ghosts-calls_over-UP-Ledger
ghosts-calls_over-UP-Ledger g a = record { name = a.blanks.up_by_phaser.name; parts = a.blanks.up_by_phaser.parts }

abbrev pub ghosts-calls_over-UW-Ledger : goal.ghosts-calls_over-UW-Ledger
ghosts-calls_over-UW-Ledger g a = record { name = a.blanks.up_by_worker.name; parts = a.blanks.up_by_worker.parts }

abbrev pub ghosts-calls_over-DP-Ledger : goal.ghosts-calls_over-DP-Ledger
ghosts-calls_over-DP-Ledger g a = record { name = a.blanks.down_by_phaser.name; parts = a.blanks.down_by_phaser.parts }

abbrev pub ghosts-calls_over-DW-Ledger : goal.ghosts-calls_over-DW-Ledger
ghosts-calls_over-DW-Ledger g a = record { name = a.blanks.down_by_worker.name; parts = a.blanks.down_by_worker.parts }

abbrev pub ghosts-calls_over-RM-Ledger : goal.ghosts-calls_over-RM-Ledger
ghosts-calls_over-RM-Ledger g a = record { name = a.blanks.room.name; parts = a.blanks.room.parts }

-- each log has the name that it was begun under
abbrev pub ghosts-calls_over-L-Logs : goal.ghosts-calls_over-L-Logs
ghosts-calls_over-L-Logs g a = record { logs = λ n. name_at (λ w. w.name) a.logs.items n; limits = a.limits }
