use Rattle.std.proofs.Common.{Some}
use Rattle.example_threads.proofs.rounds.run.Given as goal

-- the log that was just begun, and what the phaser is made with
abbrev pub ghosts-named : goal.ghosts-named
ghosts-named g a = record { log = a.whole.name; terms = record { ops = a.ops; bound = Some a.bound } }
