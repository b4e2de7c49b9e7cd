use Rattle.table_receipts.proofs.Names.{named}
use Rattle.live_rt.proofs.entry.run_live.Goals as goal

pub run_in-requires-clause-names : goal.run_in-requires-clause-names
run_in-requires-clause-names g c = λ κs within n. named (λ w. w.name) c.in_ok-logs.logs.items n

pub run_in-requires-clause-root : goal.run_in-requires-clause-root
run_in-requires-clause-root g c = λ κs within. ∣ (λ p. p) ∣₁
