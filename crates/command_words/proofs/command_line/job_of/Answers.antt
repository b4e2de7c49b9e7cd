use Rattle.std.proofs.Common.{rules, map, ap, subst, IfErr, ◌∙◌}
use Rattle.command_words.specs.CommandLine.{IsNoJobFor, asked_by, asked_in}
use Rattle.command_words.proofs.PlainWords.{plain_work, plainly}
use Rattle.command_words.proofs.Works.{asked_for, memory_alone_for, named_as, no_value_named, same_asked, value_named}
use Rattle.command_words.proofs.command_line.job_of.Goals as goal

pub returns-in_err-words-clause-named : goal.returns-in_err-words-clause-named
returns-in_err-words-clause-named c = λ work named.
    let asked = asked_for (asked_in (map (λ w. w.now) c.args.arguments.now)) work named in
    let memory = c.in_err-words.ensures.named asked.0 asked.1 in
    search (rules, memory)

pub returns-in_err-words-clause-bad_value : goal.returns-in_err-words-clause-bad_value
returns-in_err-words-clause-bad_value c = λ asked is none.
    let memory = c.in_err-words.ensures.named asked is in
    memory_alone_for c.from_residual.result _ asked (search rules) memory

pub returns-in_err-words-clause-value : goal.returns-in_err-words-clause-value
returns-in_err-words-clause-value c =
    no_value_named _ c.from_residual.result _ (search rules) c.in_err-words.ensures.no_value

pub returns-clause-named : goal.returns-clause-named
returns-clause-named c = λ work named.
    named_as (asked_in (map (λ w. w.now) c.args.arguments.now)) (asked_by c.in_ok-words.words) work
    c.job_for.result c.in_ok-words.ensures.asked named c.job_for.ensures.work c.job_for.ensures.none

pub returns-clause-bad_value : goal.returns-clause-bad_value
returns-clause-bad_value c = λ asked is none.
    let same =
    same_asked (asked_in (map (λ w. w.now) c.args.arguments.now)) (asked_by c.in_ok-words.words) asked
    c.in_ok-words.ensures.asked is in
    subst (λ a. IfErr c.job_for.result (IsNoJobFor a)) same c.job_for.ensures.none

pub returns-clause-value : goal.returns-clause-value
returns-clause-value c =
    value_named (asked_in (map (λ w. w.now) c.args.arguments.now)) (asked_by c.in_ok-words.words)
    c.job_for.result c.in_ok-words.ensures.asked c.job_for.ensures.none

pub returns-in_err-words-clause-plain : goal.returns-in_err-words-clause-plain
returns-in_err-words-clause-plain c = λ program asked work said plain is.
    let memory = c.in_err-words.ensures.named asked (ap asked_in said ∙ plainly program asked plain) in
    search (rules, memory)

pub returns-clause-plain : goal.returns-clause-plain
returns-clause-plain c = λ program asked work said plain is.
    let words = map (λ w. w.now) c.args.arguments.now in
    named_as (asked_in words) (asked_by c.in_ok-words.words) work c.job_for.result c.in_ok-words.ensures.asked
    (plain_work program asked work words said plain is) c.job_for.ensures.work c.job_for.ensures.none
