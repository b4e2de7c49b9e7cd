use Rattle.table_receipts.proofs.Names.{name_at}
use Rattle.lock_tests.proofs.live_phasers.all_slots_taken.Given as goal

-- each log has the name that it was begun under
abbrev pub ghosts-fills : goal.ghosts-fills
ghosts-fills g a = record { slots = λ n. name_at (λ w. w.name) a.logs.items n }
