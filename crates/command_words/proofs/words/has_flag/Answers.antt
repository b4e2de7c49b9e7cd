use Rattle.std.proofs.Common.{rules}
use Rattle.clap.specs.Words.{found_of}
use Rattle.command_words.proofs.Commands.{flag_by}
use Rattle.command_words.proofs.words.has_flag.Goals as goal

pub returns-in-Some : goal.returns-in-Some
returns-in-Some c =
    let is = flag_by c.args.name.now (found_of c.args.found.now) _ c.get_str.ensures in
    search (rules, is)

pub returns-in-None : goal.returns-in-None
returns-in-None c =
    let is = flag_by c.args.name.now (found_of c.args.found.now) _ c.get_str.ensures in
    search (rules, is)
