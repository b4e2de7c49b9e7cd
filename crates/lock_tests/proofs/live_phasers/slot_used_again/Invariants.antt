use Rattle.table_receipts.proofs.Names.{name_at}
use Rattle.lock_tests.proofs.live_phasers.slot_used_again.Given as goal

-- each log has the name that it was begun under
abbrev pub ghosts-comes_again : goal.ghosts-comes_again
ghosts-comes_again g a = record { slots = λ n. name_at (λ w. w.name) a.logs.items n }
