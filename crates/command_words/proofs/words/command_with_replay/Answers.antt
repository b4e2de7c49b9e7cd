use Rattle.command_words.specs.CommandLine.{replay_app}
use Rattle.command_words.proofs.Commands.{grown_in}
use Rattle.command_words.proofs.words.command_with_replay.Goals as goal

pub returns : goal.returns
returns c =
    let replay = c.in_ok-replay.ensures in
    let before = c.in_ok-command_with_run.ensures.app in
    record { app = grown_in _ _ _ _ replay_app c.subcommand.ensures before replay.app replay.local }
