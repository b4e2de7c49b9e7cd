use Rattle.std.proofs.Common.{◌∙◌}
use Rattle.example_crew.proofs.Sums.{called_from}
use Rattle.example_crew.proofs.barrier.leave.Goals as goal

pub returns : goal.returns
returns g c = record { more = called_from _ _ _ _ _ c.make_room.ensures.seen c.leave.ensures.begins (c.leave.ensures.now ∙ c.leave.ensures.added) }
