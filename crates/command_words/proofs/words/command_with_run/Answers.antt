use Rattle.command_words.specs.CommandLine.{run_app}
use Rattle.command_words.proofs.Commands.{grown_in}
use Rattle.command_words.proofs.words.command_with_run.Goals as goal

pub returns : goal.returns
returns c =
    let run = c.in_ok-run.ensures in
    let before = c.in_ok-command_with_schedule.ensures.app in
    record { app = grown_in _ _ _ _ run_app c.subcommand.ensures before run.app run.local }
