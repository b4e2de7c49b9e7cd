use Rattle.table_receipts.proofs.Names.{named}
use Rattle.lock_tests.proofs.run_tables.apart.held_while_signalled.Goals as goal

pub named_apart-requires-clause-logs : goal.named_apart-requires-clause-logs
named_apart-requires-clause-logs g c = λ _ _ n. named (λ w. w.name) c.in_ok-logs.logs.items n
