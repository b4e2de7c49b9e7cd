use Rattle.table_receipts.proofs.Names.{name_at}
use Rattle.lock_tests.proofs.run_tables.apart.held_while_signalled.Given as goal

abbrev pub ghosts-named_apart-EP-Ledger : goal.ghosts-named_apart-EP-Ledger
ghosts-named_apart-EP-Ledger g a = record { name = a.blanks.events_by_phaser.name; parts = a.blanks.events_by_phaser.parts }

abbrev pub ghosts-named_apart-EW-Ledger : goal.ghosts-named_apart-EW-Ledger
ghosts-named_apart-EW-Ledger g a = record { name = a.blanks.events_by_worker.name; parts = a.blanks.events_by_worker.parts }

abbrev pub ghosts-named_apart-UP-Ledger : goal.ghosts-named_apart-UP-Ledger
ghosts-named_apart-UP-Ledger g a = record { name = a.blanks.up_by_phaser.name; parts = a.blanks.up_by_phaser.parts }

abbrev pub ghosts-named_apart-UW-Ledger : goal.ghosts-named_apart-UW-Ledger
ghosts-named_apart-UW-Ledger g a = record { name = a.blanks.up_by_worker.name; parts = a.blanks.up_by_worker.parts }

abbrev pub ghosts-named_apart-DP-Ledger : goal.ghosts-named_apart-DP-Ledger
ghosts-named_apart-DP-Ledger g a = record { name = a.blanks.down_by_phaser.name; parts = a.blanks.down_by_phaser.parts }

abbrev pub ghosts-named_apart-DW-Ledger : goal.ghosts-named_apart-DW-Ledger
ghosts-named_apart-DW-Ledger g a = record { name = a.blanks.down_by_worker.name; parts = a.blanks.down_by_worker.parts }

abbrev pub ghosts-named_apart-RM-Ledger : goal.ghosts-named_apart-RM-Ledger
ghosts-named_apart-RM-Ledger g a = record { name = a.blanks.room.name; parts = a.blanks.room.parts }

-- each log has the name that it was begun under
abbrev pub ghosts-named_apart-L-Logs : goal.ghosts-named_apart-L-Logs
ghosts-named_apart-L-Logs g a = record { logs = λ n. name_at (λ w. w.name) a.logs.items n; limits = a.limits }
