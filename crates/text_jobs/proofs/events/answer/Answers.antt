-- The file that was read is the one that the bytes spell.
use Rattle.std.proofs.Common.{rules, ◌∙◌}
use Rattle.text_jobs.specs.EventsReading.{form_view}
use Rattle.text_jobs.proofs.EventsSpelled.{within}
use Rattle.text_jobs.proofs.events.answer.Goals as goal

pub returns-in-Ok-clause-done : goal.returns-in-Ok-clause-done
returns-in-Ok-clause-done g c =
    (form_view c.in_ok-file.file, within c.args.input.now (search rules) ∙ c.in_ok-file.ensures, search rules)

pub returns-clause-failure : goal.returns-clause-failure
returns-clause-failure g c =
    (form_view c.in_ok-file.file, within c.args.input.now (search rules) ∙ c.in_ok-file.ensures)
