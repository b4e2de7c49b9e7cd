use Rattle.table_receipts.proofs.Names.{name_at}
use Rattle.live_rt.specs.Said.{StartsWell}
use Rattle.live_rt.proofs.entry.run_live.Given as goal

-- each log has the name that it was begun under
abbrev pub ghosts-run_in-J-SlotLogs : goal.ghosts-run_in-J-SlotLogs
ghosts-run_in-J-SlotLogs g a = record { slots = λ n. name_at (λ w. w.name) a.logs.items n }

-- the root says nothing false at its start
abbrev pub ghosts-run_in-J-Supposing : goal.ghosts-run_in-J-Supposing
ghosts-run_in-J-Supposing g a = record {
  supposed = StartsWell g.B.Body.shows a.root;
  told = λ t seen. Unit {0};
}
