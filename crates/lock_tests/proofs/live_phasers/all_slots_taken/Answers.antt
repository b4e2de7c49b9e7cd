use Rattle.table_receipts.proofs.Names.{named}
use Rattle.lock_tests.proofs.live_phasers.all_slots_taken.Goals as goal

pub fills-requires-clause-names : goal.fills-requires-clause-names
fills-requires-clause-names g c = λ n. named (λ w. w.name) c.in_ok-new_slot_logs.field-0.items n
