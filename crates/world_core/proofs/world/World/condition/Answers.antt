-- The tables are asked by the task's number.
use Rattle.std.proofs.Common.{ap, subst, sym, ◌∙◌}
use Rattle.world_model.specs.TaskConditions.{condition_of}
use Rattle.world_records.specs.StandsFor.{StandsFor}
use Rattle.world_core.proofs.world.World.condition.Goals as goal

pub returns : goal.returns
returns c w st =
    c.condition.ensures w (subst (StandsFor w) (sym c.self.view_is) st)
    ∙ ap (λ t. condition_of t w) c.of.ensures
