use Rattle.table_receipts.proofs.Names.{name_at}
use Rattle.lock_tests.proofs.live_phasers.phaser_is_gone.Given as goal

-- each log has the name that it was begun under
abbrev pub ghosts-is_gone : goal.ghosts-is_gone
ghosts-is_gone g a = record { slots = λ n. name_at (λ w. w.name) a.logs.items n }
