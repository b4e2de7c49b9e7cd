use Rattle.table_receipts.proofs.Names.{named}
use Rattle.lock_tests.proofs.live_phasers.three_threads.Goals as goal

pub in_threads-requires-clause-names : goal.in_threads-requires-clause-names
in_threads-requires-clause-names g c = λ κs n. named (λ w. w.name) c.in_ok-new_slot_logs.field-0.items n
