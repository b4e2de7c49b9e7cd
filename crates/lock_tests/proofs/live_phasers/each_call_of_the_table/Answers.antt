use Rattle.table_receipts.proofs.Names.{named}
use Rattle.lock_tests.proofs.live_phasers.each_call_of_the_table.Goals as goal

pub calls-requires-clause-names : goal.calls-requires-clause-names
calls-requires-clause-names g c = λ n. named (λ w. w.name) c.in_ok-new_slot_logs.field-0.items n
