use Rattle.command_words.specs.CommandLine.{certify_app}
use Rattle.command_words.proofs.Commands.{grown_in}
use Rattle.command_words.proofs.words.command_with_certify.Goals as goal

pub returns : goal.returns
returns c =
    let certify = c.in_ok-certify.ensures in
    let before = c.in_ok-command_with_replay.ensures.app in
    record { app = grown_in _ _ _ _ certify_app c.subcommand.ensures before certify.app certify.local }
