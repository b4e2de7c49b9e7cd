use Rattle.table_receipts.proofs.Names.{named}
use Rattle.phased_rt.proofs.entry.run_tasks.Goals as goal

pub run_over-requires-clause-logs : goal.run_over-requires-clause-logs
run_over-requires-clause-logs g c = λ κs lives n. named (λ w. w.name) c.in_ok-logs.logs.items n

-- a body that says something at its end is one that says it
pub run_over-requires-clause-tells : goal.run_over-requires-clause-tells
run_over-requires-clause-tells g c = λ κs lives. ∣ (λ b task seen says. (b, says)) ∣₁
