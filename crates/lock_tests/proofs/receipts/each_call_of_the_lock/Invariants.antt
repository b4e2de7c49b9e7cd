use Rattle.std.proofs.Common.{Some}
use Rattle.lock_tests.proofs.receipts.each_call_of_the_lock.Given as goal

-- the log that was just begun, and what the phaser is made with
abbrev pub ghosts-calls : goal.ghosts-calls
ghosts-calls g a = record { log = a.whole.name; terms = record { ops = a.ops; bound = Some a.bound } }
