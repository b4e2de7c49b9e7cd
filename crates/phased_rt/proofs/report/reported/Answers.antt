use Rattle.phased_rt.proofs.Emptied.{left_where_replayed}
use Rattle.phased_rt.proofs.report.reported.Goals as goal

pub returns-clause-left : goal.returns-clause-left
returns-clause-left g c =
    left_where_replayed c.in_ok-trace.trace c.in_ok-world.world c.in_ok-world.ensures.replayed
