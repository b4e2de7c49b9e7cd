use Rattle.std.proofs.Common.{ap, ◌∙◌}
use Rattle.world_model.specs.ActConditions.{free_unless}
use Rattle.task_standing.proofs.Asked.{try_is}
use Rattle.task_standing.proofs.standing.Standing.may_try.Goals as goal

pub returns : goal.returns
returns c w is legal idle free =
    c.may_try_now.ensures
    ∙ ap (λ o. free_unless o) (try_is c.args.limits w c.args.self.now legal is c.args.tried.now idle free)
