use Rattle.text_jobs.specs.EventsEnds.{IsOfAnswer}
use Rattle.job_ends.proofs.Reported.{reports_of}
use Rattle.text_jobs.proofs.events.events_on.Goals as goal

pub returns-in-Err-clause-reported : goal.returns-in-Err-clause-reported
returns-in-Err-clause-reported g c =
    λ _. (c.end.result.reported, reports_of (IsOfAnswer c.args.input.now) _ _ _ _ c.in-Err.ensures.failure tt c.end.ensures.reported)
