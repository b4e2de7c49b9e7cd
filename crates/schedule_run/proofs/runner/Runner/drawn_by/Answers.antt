use Rattle.std.proofs.Common.{ap}
use Rattle.trace_walk.specs.Given.{tried_of}
use Rattle.schedule_run.proofs.runner.Runner.drawn_by.Goals as goal

pub returns-in-New : goal.returns-in-New
returns-in-New c l w st kept own = ap (λ n. tried_of own n c.args.act.now) (c.unused.ensures l w st kept)
