use Rattle.std.proofs.Common.{◌≡◌, [], length}
use Rattle.schedule_run.specs.inner.Bodies.{BodiesStand}
use Rattle.schedule_run.proofs.bodies.Bodies.new.Given as goal

abbrev pub invariant-loop-unnamed : goal.invariant-loop-unnamed
invariant-loop-unnamed l = record {
  stand : BodiesStand l.fn.program [] l.seats.items;
  places : length l.seats.items ≡ l._unnamed;
}
