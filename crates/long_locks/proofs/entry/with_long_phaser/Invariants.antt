use Rattle.std.proofs.Common.{Some}
use Rattle.long_locks.proofs.entry.with_long_phaser.Given as goal

-- the log that was just begun, and what the phaser is made with
abbrev pub ghosts-named : goal.ghosts-named
ghosts-named g a = record { log = a.unmade.log.name; terms = record { ops = a.unmade.ops; bound = Some a.unmade.bound } }
