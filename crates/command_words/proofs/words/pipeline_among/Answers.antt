use Rattle.std.proofs.Common.{rules, codes}
use Rattle.clap.specs.Words.{found_of, rows_of}
use Rattle.command_words.specs.CommandLine.{flagged, pipeline}
use Rattle.command_words.proofs.Commands.{both_there, first_missing, other_missing}
use Rattle.command_words.proofs.words.pipeline_among.Goals as goal

pub returns-in_err-stages : goal.returns-in_err-stages
returns-in_err-stages c =
    let found = found_of c.args.found.now in
    let is = first_missing (flagged pipeline (rows_of found)) found (codes "stages") (codes "items") _ c.get_str.ensures in
    search (rules, is)

pub returns-in_err-items : goal.returns-in_err-items
returns-in_err-items c =
    let found = found_of c.args.found.now in
    let is = other_missing (flagged pipeline (rows_of found)) found (codes "stages") (codes "items") _ c.get_str-2.ensures in
    search (rules, is)

pub returns : goal.returns
returns c =
    let found = found_of c.args.found.now in
    let is =
    both_there (flagged pipeline (rows_of found)) found (codes "stages") (codes "items") _ _ _ c.get_str.ensures c.get_str-2.ensures c.get_str-3.ensures in
    search (rules, is, c.has_flag.ensures, c.has_flag-2.ensures)
