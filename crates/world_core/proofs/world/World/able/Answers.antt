-- The tables are asked by the task's number.
use Rattle.std.proofs.Common.{ap, subst, sym, ◌∙◌}
use Rattle.world_model.specs.Able.{is_able}
use Rattle.world_records.specs.WorldState.{WorldState}
use Rattle.world_records.specs.StandsFor.{StandsFor}
use Rattle.world_core.proofs.world.World.able.Goals as goal

pub returns : goal.returns
returns c w st =
    c.able.ensures w (subst (StandsFor w) (sym c.self.view_is) st)
    ∙ ap (λ t. is_able c.self.inside.tables.limits w t) c.of.ensures
    ∙ ap (λ (s : WorldState). is_able s.limits w c.args.task) c.self.view_is
