-- What the subcommand that `clap` found is asked for is what the arguments ask for.
use Rattle.std.proofs.Common.{ap, map, sym, ◌∙◌}
use Rattle.clap.specs.Words.{is_simple_and_free}
use Rattle.command_words.proofs.Named.{entered_at, entered_words, fault_at, memory_alone, named_words, words_named}
use Rattle.command_words.proofs.words.words_of.Goals as goal

pub returns-in-Err-clause-named : goal.returns-in-Err-clause-named
returns-in-Err-clause-named c = λ asked named.
    let arguments = map (λ w. w.now) c.args.arguments.now in
    let app = c.in_ok-command.ensures.app in
    let kinds = c.in-Err.ensures.kinds (ap is_simple_and_free app) in
    c.no_job_for.ensures.memory
    (memory_alone arguments c.in_ok-command.field-0 c.in-Err.error app
    (words_named arguments asked named).0 kinds)

pub returns-in-Some-words_among-clause-asked : goal.returns-in-Some-words_among-clause-asked
returns-in-Some-words_among-clause-asked c =
    let arguments = map (λ w. w.now) c.args.arguments.now in
    let app = c.in_ok-command.ensures.app in
    let entered = entered_at arguments c.in_ok-command.field-0 c.in-Ok.matches app c.in-Ok.ensures.matches in
    let among =
    entered_words arguments c.in-Ok.matches c.in-Some.found.now c.in-Some.name.now entered
    c.in-Some.ensures.name c.in-Some.ensures.rows in
    let whole =
    sym (fault_at arguments c.in_ok-command.field-0 app)
    ∙ c.in-Ok.ensures.kinds (ap is_simple_and_free app) in
    named_words arguments whole ∙ among ∙ sym c.in-Some-words_among.ensures

pub returns-in-Some-words_among-clause-named : goal.returns-in-Some-words_among-clause-named
returns-in-Some-words_among-clause-named c = λ asked named.
    let is_read = returns-in-Some-words_among-clause-asked c in
    cc

pub returns-clause-named : goal.returns-clause-named
returns-clause-named c = λ asked named.
    let arguments = map (λ w. w.now) c.args.arguments.now in
    let app = c.in_ok-command.ensures.app in
    let entered = entered_at arguments c.in_ok-command.field-0 c.in-Ok.matches app c.in-Ok.ensures.matches in
    let among =
    entered_words arguments c.in-Ok.matches c.in-Some.found.now c.in-Some.name.now entered
    c.in-Some.ensures.name c.in-Some.ensures.rows in
    let is_named = (words_named arguments asked named).1 in
    let is_none = c.in-None.ensures in
    cc
