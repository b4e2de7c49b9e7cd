use Rattle.std.proofs.Common.{rules, codes}
use Rattle.clap.specs.Words.{found_of, rows_of}
use Rattle.command_words.specs.CommandLine.{flagged, stencil}
use Rattle.command_words.proofs.Commands.{both_there, first_missing, other_missing}
use Rattle.command_words.proofs.words.stencil_among.Goals as goal

pub returns-in_err-first : goal.returns-in_err-first
returns-in_err-first c =
    let found = found_of c.args.found.now in
    let is = first_missing (flagged stencil (rows_of found)) found (codes "first") (codes "steps") _ c.get_str.ensures in
    search (rules, is)

pub returns-in_err-steps : goal.returns-in_err-steps
returns-in_err-steps c =
    let found = found_of c.args.found.now in
    let is = other_missing (flagged stencil (rows_of found)) found (codes "first") (codes "steps") _ c.get_str-2.ensures in
    search (rules, is)

pub returns : goal.returns
returns c =
    let found = found_of c.args.found.now in
    let is =
    both_there (flagged stencil (rows_of found)) found (codes "first") (codes "steps") _ _ _ c.get_str.ensures c.get_str-2.ensures c.get_str-3.ensures in
    search (rules, is, c.has_flag.ensures, c.has_flag-2.ensures)
