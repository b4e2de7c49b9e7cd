use Rattle.std.proofs.Common.{◌≡◌, true, take}
use Rattle.trace_walk.specs.History.{history}
use Rattle.run_laws.specs.Luck.{is_all_steady}
use Rattle.run_laws.specs.inner.Watched.{Watches}
use Rattle.run_laws.proofs.trace_luck.first_luck.Given as goal

abbrev pub invariant-loop-i : goal.invariant-loop-i
invariant-loop-i l = record {
  stand : Watches l.trace.limits (history (take l.i l.trace.events)) l.watch;
  so_far : is_all_steady l.trace.limits (history (take l.i l.trace.events)) ≡ true;
}
