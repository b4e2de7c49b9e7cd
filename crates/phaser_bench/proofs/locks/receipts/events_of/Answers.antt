use Rattle.table_receipts.proofs.Names.{named}
use Rattle.phaser_bench.proofs.locks.receipts.events_of.Goals as goal

pub named_events-requires-clause-logs : goal.named_events-requires-clause-logs
named_events-requires-clause-logs g c = λ κs lives n. named (λ w. w.name) c.in_ok-logs.logs.items n
