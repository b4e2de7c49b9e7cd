use Rattle.phaser_bench.proofs.locks.plain.events_of.Given as goal

abbrev pub ghosts-named_events-A-Ledger : goal.ghosts-named_events-A-Ledger
ghosts-named_events-A-Ledger g a = record { name = a.blanks.events_by_phaser.name; parts = a.blanks.events_by_phaser.parts }

abbrev pub ghosts-named_events-B-Ledger : goal.ghosts-named_events-B-Ledger
ghosts-named_events-B-Ledger g a = record { name = a.blanks.events_by_worker.name; parts = a.blanks.events_by_worker.parts }

abbrev pub ghosts-named_events-C-Ledger : goal.ghosts-named_events-C-Ledger
ghosts-named_events-C-Ledger g a = record { name = a.blanks.up_by_phaser.name; parts = a.blanks.up_by_phaser.parts }

abbrev pub ghosts-named_events-D-Ledger : goal.ghosts-named_events-D-Ledger
ghosts-named_events-D-Ledger g a = record { name = a.blanks.up_by_worker.name; parts = a.blanks.up_by_worker.parts }

abbrev pub ghosts-named_events-E-Ledger : goal.ghosts-named_events-E-Ledger
ghosts-named_events-E-Ledger g a = record { name = a.blanks.down_by_phaser.name; parts = a.blanks.down_by_phaser.parts }

abbrev pub ghosts-named_events-F-Ledger : goal.ghosts-named_events-F-Ledger
ghosts-named_events-F-Ledger g a = record { name = a.blanks.down_by_worker.name; parts = a.blanks.down_by_worker.parts }

abbrev pub ghosts-named_events-G-Ledger : goal.ghosts-named_events-G-Ledger
ghosts-named_events-G-Ledger g a = record { name = a.blanks.room.name; parts = a.blanks.room.parts }
