use Rattle.std.proofs.Common.{inl, inr, refl}
use Rattle.job_ends.proofs.Reported.{reports_of}
use Rattle.run_jobs.specs.Printed.{IsOfEnd}
use Rattle.run_jobs.proofs.printing.end_kernel.Goals as goal

pub returns-in-Err-clause-reported : goal.returns-in-Err-clause-reported
returns-in-Err-clause-reported g c =
    λ _. (c.end.result.reported, reports_of (IsOfEnd c.args.ran) _ _ _ _ (inl (rw c.in-Err.is refl)) (inr refl) c.end.ensures.reported)

pub returns-clause-reported : goal.returns-clause-reported
returns-clause-reported g c =
    λ _. (c.end-in-Err-print_report.result.reported, reports_of (IsOfEnd c.args.ran) _ _ _ _ (inl (rw c.in-Ok.is c.in-Err-print_report.ensures.failure)) (inr refl) c.end-in-Err-print_report.ensures.reported)
