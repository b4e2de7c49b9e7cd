use Rattle.std.proofs.Common.{◌≡◌, reverse, take}
use Rattle.phaser_c.proofs.history.copied.Given as goal

abbrev pub invariant-loop-i : goal.invariant-loop-i
invariant-loop-i l = l.copy ≡ record { limits = l.history.limits; terms = l.history.terms; past = reverse (take l.i l.events) }
