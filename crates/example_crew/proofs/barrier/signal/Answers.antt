use Rattle.std.proofs.Common.{◌∙◌}
use Rattle.example_crew.proofs.Sums.{called_from}
use Rattle.example_crew.proofs.barrier.signal.Goals as goal

pub returns-in-Signalled : goal.returns-in-Signalled
returns-in-Signalled g c = record { more = called_from _ _ _ _ _ c.make_room.ensures.seen c.signal-answer.ensures.begins (c.signal-answer.ensures.now ∙ c.signal-answer.ensures.added) }
