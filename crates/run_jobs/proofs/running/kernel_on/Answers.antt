use Rattle.run_jobs.proofs.running.kernel_on.Goals as goal

pub returns-clause-reported : goal.returns-clause-reported
returns-clause-reported g c = λ undone. (
  c.report_of-ran.result,
  c.report_of-ran.ensures,
  c.end_kernel.ensures.reported undone,
)
