-- The report that was written is the certified one, since luck has no part in the run.
use Rattle.std.proofs.Common.{rules, ◌≡◌, true, inr, ap}
use Rattle.std.proofs.lemmas.Result.{err_from_is_err_and}
use Rattle.world_model.specs.Report.{Report}
use Rattle.trace_walk.specs.History as histories
use Rattle.run_laws.specs.Certified.{IsCertified}
use Rattle.run_laws.specs.Luck.{is_all_steady}
use Rattle.run_jobs.specs.Certificate.{certificate_text}
use Rattle.run_jobs.proofs.OfRun.{of_run, of_texts}
use Rattle.run_jobs.proofs.certain.certain_bytes.Goals as goal

pub returns-in-Some-clause-no_certificate : goal.returns-in-Some-clause-no_certificate
returns-in-Some-clause-no_certificate g c =
    let program = c.in_ok-program.program in
    let trace = c.in_ok-report.report.trace in
    let made = c.in_ok-report.ensures in
    inr (
      program,
      trace,
      search rules,
      made.ran,
      (search rules, search rules),
    )

pub returns-in_err-put_certain-clause-refused : goal.returns-in_err-put_certain-clause-refused
returns-in_err-put_certain-clause-refused g c =
    let p = err_from_is_err_and c.from_residual-in_err-put_certain.result
    c.from_residual-in_err-put_certain.ensures.1 in
    rw (p.1, p.2) c.in_err-put_certain.ensures.refused

pub returns-in_err-put_certain-clause-no_certificate :
    goal.returns-in_err-put_certain-clause-no_certificate
returns-in_err-put_certain-clause-no_certificate g c =
    let p = err_from_is_err_and c.from_residual-in_err-put_certain.result
    c.from_residual-in_err-put_certain.ensures.1 in
    rw (p.1, p.2) (of_texts _ c.in_ok-program.program (search rules) _ c.in_err-put_certain.ensures.failure)

pub returns-clause-done : goal.returns-clause-done
returns-clause-done g c =
    let program = c.in_ok-program.program in
    let trace = c.in_ok-report.report.trace in
    let made = c.in_ok-report.ensures in
    let certified : (r : Report) × IsCertified program r = search rules in
    let steady : is_all_steady trace.limits (histories.history trace.events) ≡ true = search rules in
    let lines = ap certificate_text made.world in (
      program,
      trace,
      search rules,
      made.ran,
      (
        of_run program trace certified.0 certified.1 made.ran steady,
        (search (rules, lines), search rules),
      ),
    )
