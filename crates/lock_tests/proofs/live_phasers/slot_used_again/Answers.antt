use Rattle.table_receipts.proofs.Names.{named}
use Rattle.lock_tests.proofs.live_phasers.slot_used_again.Goals as goal

pub comes_again-requires-clause-names : goal.comes_again-requires-clause-names
comes_again-requires-clause-names g c = λ n. named (λ w. w.name) c.in_ok-new_slot_logs.field-0.items n
