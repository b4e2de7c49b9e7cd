use Rattle.std.proofs.Common.{rules, codes, refl, ◌∙◌}
use Rattle.clap.specs.Words.{found_of, rows_of}
use Rattle.clap.proofs.WalkLemmas.{first_value-rows}
use Rattle.command_words.specs.CommandLine.{certify, events, to_judge, to_replay, to_run, to_schedule}
use Rattle.command_words.proofs.Commands.{among_file, among_none}
use Rattle.command_words.proofs.words.filed_among.Goals as goal

pub returns-in_err-file : goal.returns-in_err-file
returns-in_err-file c =
    let is = among_none c.args.name.now (found_of c.args.found.now) _ c.get_str.ensures in
    search (rules, is)

pub returns-in-events : goal.returns-in-events
returns-in-events c =
    let found = found_of c.args.found.now in
    let is = among_file events (codes "events") c.args.name.now found _ c.in-events.is c.get_str.ensures refl in
    search (rules, is)

pub returns-in-schedule : goal.returns-in-schedule
returns-in-schedule c =
    let found = found_of c.args.found.now in
    let is = among_file (to_schedule (rows_of found)) (codes "schedule") c.args.name.now found _ c.in-schedule.is c.get_str.ensures refl in
    let picks = c.get_str-in-schedule.ensures ∙ first_value-rows found _ in
    let trace = c.get_str-in-schedule-2.ensures ∙ first_value-rows found _ in
    search (rules, is, picks, trace)

pub returns-in-run : goal.returns-in-run
returns-in-run c =
    let found = found_of c.args.found.now in
    let is = among_file (to_run (rows_of found)) (codes "run") c.args.name.now found _ c.in-run.is c.get_str.ensures refl in
    let workers = c.get_str-in-run.ensures ∙ first_value-rows found _ in
    let trace = c.get_str-in-run-2.ensures ∙ first_value-rows found _ in
    search (rules, is, workers, trace, c.has_flag.ensures, c.has_flag-in-run.ensures, c.has_flag-in-run-2.ensures)

pub returns-in-replay : goal.returns-in-replay
returns-in-replay c =
    let found = found_of c.args.found.now in
    let is = among_file (to_replay (rows_of found)) (codes "replay") c.args.name.now found _ c.in-replay.is c.get_str.ensures refl in
    let upgrade = c.get_str-in-replay.ensures ∙ first_value-rows found _ in
    search (rules, is, upgrade)

pub returns-in-certify : goal.returns-in-certify
returns-in-certify c =
    let found = found_of c.args.found.now in
    let is = among_file certify (codes "certify") c.args.name.now found _ c.in-certify.is c.get_str.ensures refl in
    search (rules, is)

pub returns-in-judge : goal.returns-in-judge
returns-in-judge c =
    let found = found_of c.args.found.now in
    let is = among_file (to_judge (rows_of found)) (codes "judge") c.args.name.now found _ c.in-judge.is c.get_str.ensures refl in
    let every = c.get_str-in-judge.ensures ∙ first_value-rows found _ in
    search (rules, is, every)
