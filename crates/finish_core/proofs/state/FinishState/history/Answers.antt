-- What holds at the shut, of the history as it is stored.
use Rattle.std.proofs.Common.{reverse}
use Rattle.finish_core.proofs.Awaited.{shut_awaits_all}
use Rattle.finish_core.proofs.state.FinishState.history.Goals as goal

pub returns-clause-awaited : goal.returns-clause-awaited
returns-clause-awaited c =
    let f = c.self.inside in
    rw (← c.self.view_is) (shut_awaits_all f.tasks (reverse f.events.items) c.self.invariant.0.legal)
