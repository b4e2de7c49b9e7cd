use Rattle.job_ends.proofs.Reported.{reports_of}
use Rattle.text_jobs.specs.Scheduled.{IsOfSchedule}
use Rattle.text_jobs.proofs.scheduling.schedule_on.Goals as goal

pub returns-in-Err-clause-reported : goal.returns-in-Err-clause-reported
returns-in-Err-clause-reported g c =
    λ _. (c.end.result.reported, reports_of (IsOfSchedule c.args.input.now) _ _ _ _ c.in-Err.ensures.failure tt c.end.ensures.reported)
