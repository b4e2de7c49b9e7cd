use Rattle.lock_tests.proofs.books.posted_is_gathered.Given as goal

abbrev pub ghosts-run_over-A-Ledger : goal.ghosts-run_over-A-Ledger
ghosts-run_over-A-Ledger g a =
    record { name = a.blanks.events_by_phaser.name; parts = a.blanks.events_by_phaser.parts }

abbrev pub ghosts-run_over-B-Ledger : goal.ghosts-run_over-B-Ledger
ghosts-run_over-B-Ledger g a =
    record { name = a.blanks.events_by_worker.name; parts = a.blanks.events_by_worker.parts }

abbrev pub ghosts-run_over-C-Ledger : goal.ghosts-run_over-C-Ledger
ghosts-run_over-C-Ledger g a =
    record { name = a.blanks.up_by_phaser.name; parts = a.blanks.up_by_phaser.parts }

abbrev pub ghosts-run_over-D-Ledger : goal.ghosts-run_over-D-Ledger
ghosts-run_over-D-Ledger g a =
    record { name = a.blanks.up_by_worker.name; parts = a.blanks.up_by_worker.parts }

abbrev pub ghosts-run_over-E-Ledger : goal.ghosts-run_over-E-Ledger
ghosts-run_over-E-Ledger g a =
    record { name = a.blanks.down_by_phaser.name; parts = a.blanks.down_by_phaser.parts }

abbrev pub ghosts-run_over-F-Ledger : goal.ghosts-run_over-F-Ledger
ghosts-run_over-F-Ledger g a =
    record { name = a.blanks.down_by_worker.name; parts = a.blanks.down_by_worker.parts }

abbrev pub ghosts-run_over-G-Ledger : goal.ghosts-run_over-G-Ledger
ghosts-run_over-G-Ledger g a = record { name = a.blanks.room.name; parts = a.blanks.room.parts }
