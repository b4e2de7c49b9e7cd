use Rattle.table_receipts.proofs.Names.{name_at}
use Rattle.lock_tests.proofs.live_phasers.each_call_of_the_table.Given as goal

-- each log has the name that it was begun under
abbrev pub ghosts-calls : goal.ghosts-calls
ghosts-calls g a = record { slots = λ n. name_at (λ w. w.name) a.logs.items n }
