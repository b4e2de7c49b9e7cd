use Rattle.table_receipts.proofs.Names.{named}
use Rattle.lock_tests.proofs.run_tables.answers_as_worked_out.Goals as goal

pub calls_over-requires-clause-logs : goal.calls_over-requires-clause-logs
calls_over-requires-clause-logs g c = λ n. named (λ w. w.name) c.in_ok-logs.logs.items n
