use Rattle.std.proofs.Common.{◌≤◌}
use Rattle.lock_tests.proofs.live_finishes.end_many.Given as goal

abbrev pub invariant-loop-turn : goal.invariant-loop-turn
invariant-loop-turn g l = l.woken ≤ l._turn
