use Rattle.command_words.specs.CommandLine.{events_app}
use Rattle.command_words.proofs.Commands.{grown_in}
use Rattle.command_words.proofs.words.command_with_events.Goals as goal

pub returns : goal.returns
returns c =
    let events = c.in_ok-events.ensures in
    let before = c.bare_command.ensures in
    record { app = grown_in _ _ _ _ events_app c.subcommand.ensures before events.app events.local }
