use Rattle.std.proofs.Common.{◌∙◌}
use Rattle.example_crew.proofs.Sums.{called}
use Rattle.example_crew.proofs.barrier.send.Goals as goal

pub returns : goal.returns
returns g c = record { more = called _ _ _ _ c.send.ensures.begins (c.send.ensures.now ∙ c.send.ensures.added) }
