use Rattle.run_jobs.specs.Certificate.{IsOfCertificate}
use Rattle.run_jobs.proofs.Reasons.{reports_of}
use Rattle.run_jobs.proofs.certifying.certify_on.Goals as goal

pub returns-in-Err-clause-reported : goal.returns-in-Err-clause-reported
returns-in-Err-clause-reported g c =
    λ _. (c.end.result.reported, reports_of (IsOfCertificate c.args.input.now) _ _ _ _ c.in-Err.ensures.no_certificate tt c.end.ensures.reported)
