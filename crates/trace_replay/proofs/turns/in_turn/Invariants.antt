use Rattle.std.proofs.Common.{◌≡◌, length}
use Rattle.trace_replay.proofs.Turning.{IsOnWay}
use Rattle.trace_replay.proofs.turns.in_turn.Given as goal

abbrev pub invariant-loop-turn : goal.invariant-loop-turn
invariant-loop-turn l = record {
  limits : l.trace.limits ≡ l.fn.limits;
  places : length l.next.items ≡ length l.parts;
  way : IsOnWay l.parts l.next.items l.last l.trace.events;
}
