use Rattle.table_receipts.proofs.Names.{named}
use Rattle.lock_tests.proofs.live_phasers.phaser_is_gone.Goals as goal

pub is_gone-requires-clause-names : goal.is_gone-requires-clause-names
is_gone-requires-clause-names g c = λ n. named (λ w. w.name) c.in_ok-new_slot_logs.field-0.items n
