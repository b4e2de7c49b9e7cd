use Rattle.lock_tests.proofs.waiter.parked_waiter.Given as goal

abbrev pub ghosts-named_wait-A-Ledger : goal.ghosts-named_wait-A-Ledger
ghosts-named_wait-A-Ledger g a = record { name = a.blanks.events_by_phaser.name; parts = a.blanks.events_by_phaser.parts }

abbrev pub ghosts-named_wait-B-Ledger : goal.ghosts-named_wait-B-Ledger
ghosts-named_wait-B-Ledger g a = record { name = a.blanks.events_by_worker.name; parts = a.blanks.events_by_worker.parts }

abbrev pub ghosts-named_wait-C-Ledger : goal.ghosts-named_wait-C-Ledger
ghosts-named_wait-C-Ledger g a = record { name = a.blanks.up_by_phaser.name; parts = a.blanks.up_by_phaser.parts }

abbrev pub ghosts-named_wait-D-Ledger : goal.ghosts-named_wait-D-Ledger
ghosts-named_wait-D-Ledger g a = record { name = a.blanks.up_by_worker.name; parts = a.blanks.up_by_worker.parts }

abbrev pub ghosts-named_wait-E-Ledger : goal.ghosts-named_wait-E-Ledger
ghosts-named_wait-E-Ledger g a = record { name = a.blanks.down_by_phaser.name; parts = a.blanks.down_by_phaser.parts }

abbrev pub ghosts-named_wait-F-Ledger : goal.ghosts-named_wait-F-Ledger
ghosts-named_wait-F-Ledger g a = record { name = a.blanks.down_by_worker.name; parts = a.blanks.down_by_worker.parts }

abbrev pub ghosts-named_wait-G-Ledger : goal.ghosts-named_wait-G-Ledger
ghosts-named_wait-G-Ledger g a = record { name = a.blanks.room.name; parts = a.blanks.room.parts }
