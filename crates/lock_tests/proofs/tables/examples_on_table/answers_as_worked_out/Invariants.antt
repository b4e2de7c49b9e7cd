use Rattle.lock_tests.proofs.tables.examples_on_table.answers_as_worked_out.Given as goal

abbrev pub ghosts-named-A-Ledger : goal.ghosts-named-A-Ledger
ghosts-named-A-Ledger g a = record { name = a.blanks.events_by_phaser.name; parts = a.blanks.events_by_phaser.parts }

abbrev pub ghosts-named-B-Ledger : goal.ghosts-named-B-Ledger
ghosts-named-B-Ledger g a = record { name = a.blanks.events_by_worker.name; parts = a.blanks.events_by_worker.parts }

abbrev pub ghosts-named-C-Ledger : goal.ghosts-named-C-Ledger
ghosts-named-C-Ledger g a = record { name = a.blanks.up_by_phaser.name; parts = a.blanks.up_by_phaser.parts }

abbrev pub ghosts-named-D-Ledger : goal.ghosts-named-D-Ledger
ghosts-named-D-Ledger g a = record { name = a.blanks.up_by_worker.name; parts = a.blanks.up_by_worker.parts }

abbrev pub ghosts-named-E-Ledger : goal.ghosts-named-E-Ledger
ghosts-named-E-Ledger g a = record { name = a.blanks.down_by_phaser.name; parts = a.blanks.down_by_phaser.parts }

abbrev pub ghosts-named-F-Ledger : goal.ghosts-named-F-Ledger
ghosts-named-F-Ledger g a = record { name = a.blanks.down_by_worker.name; parts = a.blanks.down_by_worker.parts }

abbrev pub ghosts-named-G-Ledger : goal.ghosts-named-G-Ledger
ghosts-named-G-Ledger g a = record { name = a.blanks.room.name; parts = a.blanks.room.parts }
