use Rattle.command_words.specs.CommandLine.{stencil_app}
use Rattle.command_words.proofs.Commands.{grown_in}
use Rattle.command_words.proofs.words.command_with_stencil.Goals as goal

pub returns : goal.returns
returns c =
    let stencil = c.in_ok-stencil.ensures in
    let before = c.in_ok-command_with_judge.ensures.app in
    record { app = grown_in _ _ _ _ stencil_app c.subcommand.ensures before stencil.app stencil.local }
