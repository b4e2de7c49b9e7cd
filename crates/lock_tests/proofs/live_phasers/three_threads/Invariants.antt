use Rattle.table_receipts.proofs.Names.{name_at}
use Rattle.lock_tests.proofs.live_phasers.three_threads.Given as goal

-- each log has the name that it was begun under
abbrev pub ghosts-in_threads : goal.ghosts-in_threads
ghosts-in_threads g a = record { slots = λ n. name_at (λ w. w.name) a.logs.items n }
