use Rattle.run_jobs.specs.Certain.{IsOfCertain}
use Rattle.run_jobs.proofs.Reasons.{reports_of}
use Rattle.run_jobs.proofs.certain.certain_on.Goals as goal

pub returns-in-Err-clause-reported : goal.returns-in-Err-clause-reported
returns-in-Err-clause-reported g c =
    λ _. (c.end.result.reported, reports_of (IsOfCertain c.args.input.now) _ _ _ _ c.in-Err.ensures.no_certificate tt c.end.ensures.reported)
