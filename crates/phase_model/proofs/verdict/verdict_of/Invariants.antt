use Rattle.std.proofs.Common.{◌≡◌, Ok, reverse, take}
use Rattle.phase_model.specs.Explaining.{verdict}
use Rattle.phase_model.proofs.verdict.verdict_of.Given as goal

abbrev pub invariant-loop-i : goal.invariant-loop-i
invariant-loop-i l = verdict l.history.limits l.history.terms (reverse (take l.i l.events)) ≡ Ok tt
