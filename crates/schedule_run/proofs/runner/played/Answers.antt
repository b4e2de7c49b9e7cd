use Rattle.std.proofs.Common.{[]}
use Rattle.trace_walk.specs.Picks.{picked}
use Rattle.schedule_run.proofs.runner.played.Goals as goal

pub rounds-requires : goal.rounds-requires
rounds-requires c = record {
  stands = (c.args.program.now, picked c.args.program.now [] c.args.picks.now, c.in_ok-picks.ensures.stands c.args.program.now [] c.in_ok-runner.ensures.stands);
  ended = c.in_ok-ended.ensures.known;
}

pub returns-clause-run : goal.returns-clause-run
returns-clause-run c =
    c.in_ok-rounds.ensures.ended c.args.program.now (picked c.args.program.now [] c.args.picks.now) (c.in_ok-picks.ensures.stands c.args.program.now [] c.in_ok-runner.ensures.stands)
