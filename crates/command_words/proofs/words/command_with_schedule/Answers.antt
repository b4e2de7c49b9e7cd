use Rattle.command_words.specs.CommandLine.{schedule_app}
use Rattle.command_words.proofs.Commands.{grown_in}
use Rattle.command_words.proofs.words.command_with_schedule.Goals as goal

pub returns : goal.returns
returns c =
    let schedule = c.in_ok-schedule.ensures in
    let before = c.in_ok-command_with_events.ensures.app in
    record { app = grown_in _ _ _ _ schedule_app c.subcommand.ensures before schedule.app schedule.local }
