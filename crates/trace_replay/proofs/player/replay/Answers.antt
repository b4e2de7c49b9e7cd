use Rattle.trace_replay.proofs.Reported.{reported}
use Rattle.trace_replay.proofs.player.replay.Goals as goal

pub returns : goal.returns
returns c =
    reported c.args.trace.now c.in_ok-world.world c.report.result c.in_ok-world.ensures c.report.ensures.report c.report.ensures.memory
