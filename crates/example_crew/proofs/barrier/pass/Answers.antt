use Rattle.std.proofs.Common.{◌∙◌}
use Rattle.example_crew.proofs.Sums.{called_from}
use Rattle.example_crew.proofs.barrier.pass.Goals as goal

pub returns-in-Passed : goal.returns-in-Passed
returns-in-Passed g c = record { more = called_from _ _ _ _ _ c.make_room.ensures.seen c.pass-answer.ensures.begins (c.pass-answer.ensures.now ∙ c.pass-answer.ensures.added) }

pub returns-in-Claimed : goal.returns-in-Claimed
returns-in-Claimed g c = record { more = called_from _ _ _ _ _ c.make_room.ensures.seen c.pass-answer.ensures.begins (c.pass-answer.ensures.now ∙ c.pass-answer.ensures.added) }
