use Rattle.command_words.specs.CommandLine.{judge_app}
use Rattle.command_words.proofs.Commands.{grown_in}
use Rattle.command_words.proofs.words.command_with_judge.Goals as goal

pub returns : goal.returns
returns c =
    let judge = c.in_ok-judge.ensures in
    let before = c.in_ok-command_with_certify.ensures.app in
    record { app = grown_in _ _ _ _ judge_app c.subcommand.ensures before judge.app judge.local }
