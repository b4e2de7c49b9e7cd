use Rattle.lock_tests.proofs.tables.threads.crowd_once.Given as goal

abbrev pub ghosts-named_crowd-A-Ledger : goal.ghosts-named_crowd-A-Ledger
ghosts-named_crowd-A-Ledger g a = record { name = a.blanks.events_by_phaser.name; parts = a.blanks.events_by_phaser.parts }

abbrev pub ghosts-named_crowd-B-Ledger : goal.ghosts-named_crowd-B-Ledger
ghosts-named_crowd-B-Ledger g a = record { name = a.blanks.events_by_worker.name; parts = a.blanks.events_by_worker.parts }

abbrev pub ghosts-named_crowd-C-Ledger : goal.ghosts-named_crowd-C-Ledger
ghosts-named_crowd-C-Ledger g a = record { name = a.blanks.up_by_phaser.name; parts = a.blanks.up_by_phaser.parts }

abbrev pub ghosts-named_crowd-D-Ledger : goal.ghosts-named_crowd-D-Ledger
ghosts-named_crowd-D-Ledger g a = record { name = a.blanks.up_by_worker.name; parts = a.blanks.up_by_worker.parts }

abbrev pub ghosts-named_crowd-E-Ledger : goal.ghosts-named_crowd-E-Ledger
ghosts-named_crowd-E-Ledger g a = record { name = a.blanks.down_by_phaser.name; parts = a.blanks.down_by_phaser.parts }

abbrev pub ghosts-named_crowd-F-Ledger : goal.ghosts-named_crowd-F-Ledger
ghosts-named_crowd-F-Ledger g a = record { name = a.blanks.down_by_worker.name; parts = a.blanks.down_by_worker.parts }

abbrev pub ghosts-named_crowd-G-Ledger : goal.ghosts-named_crowd-G-Ledger
ghosts-named_crowd-G-Ledger g a = record { name = a.blanks.room.name; parts = a.blanks.room.parts }
