-- None of those that were come to is in the slot, so the first is one of the rest.
use Rattle.std.proofs.Common.{◌≡◌, ◌==◌, ◌+◌, drop}
use Rattle.std.specs.Prelude.{find}
use Rattle.std.specs.List.{position_or_len}
use Rattle.live_rt.proofs.places.place_in.Given as goal

abbrev pub invariant-loop-i : goal.invariant-loop-i
invariant-loop-i g l = record {
  none : find (λ p. p.at.slot == l.slot) l.list ≡ find (λ p. p.at.slot == l.slot) (drop l.i l.list);
  place : position_or_len (λ p. p.at.slot == l.slot) l.list ≡ l.i + position_or_len (λ p. p.at.slot == l.slot) (drop l.i l.list);
}
