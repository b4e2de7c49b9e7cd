use Rattle.command_words.specs.CommandLine.{pipeline_app}
use Rattle.command_words.proofs.Commands.{grown_in}
use Rattle.command_words.proofs.words.command.Goals as goal

pub returns : goal.returns
returns c =
    let pipeline = c.in_ok-pipeline.ensures in
    let before = c.in_ok-command_with_stencil.ensures.app in
    record { app = grown_in _ _ _ _ pipeline_app c.subcommand.ensures before pipeline.app pipeline.local }
