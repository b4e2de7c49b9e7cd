-- An open finish may be shut exactly where no task is counted.
use Rattle.std.proofs.Common.{ap, ◌∙◌}
use Rattle.finish_core.specs.Finish.{FinishStory, all_ended}
use Rattle.finish_core.proofs.Standing.{running_none}
use Rattle.finish_core.proofs.state.FinishState.may_shut.Goals as goal

pub returns-then-is_open : goal.returns-then-is_open
returns-then-is_open c =
    rw (← c.if-is_open.ensures)
    (running_none c.self.invariant.0 ∙ ap (λ (v : FinishStory). all_ended v.past) c.self.view_is)
