-- None of those that were come to passes, so the first is one of the rest.
use Rattle.std.proofs.Common.{◌≡◌, drop}
use Rattle.std.specs.Prelude.{find}
use Rattle.task_standing.specs.Standing.{owes}
use Rattle.task_standing.proofs.standing.Standing.first_owing.Given as goal

abbrev pub invariant-loop-i : goal.invariant-loop-i
invariant-loop-i l = find owes l.self.holding ≡ find owes (drop l.i l.self.holding)
