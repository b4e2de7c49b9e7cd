-- A run of a certified program in which luck has no part has the certified report; and why its texts aren't written.
use Rattle.std.proofs.Common.{◌≡◌, ℕ, List, Ok, true, inl, inr, ap, sym, subst, ◌∙◌}
use Rattle.job_script.specs.Program.{Program}
use Rattle.job_ends.specs.declared.failure.Failure as failures
use Rattle.world_model.specs.Report.{Report, report_of}
use Rattle.trace_model.specs.Run.{Run}
use Rattle.trace_walk.specs.History as histories
use Rattle.text_jobs.specs.Texts.{IsOfTexts, history, program_spelled}
use Rattle.run_laws.specs.Certified.{IsCertified}
use Rattle.run_laws.specs.Luck.{is_all_steady}
use Rattle.run_laws.proofs.Whole.{has_certified_report, program_run}
use Rattle.run_jobs.specs.Worked.{IsOfRun, IsRunOf}

pub of_run : (p : Program) (t : Run) (r : Report) → IsCertified p r → IsRunOf p t
    → is_all_steady t.limits (histories.history t.events) ≡ true → IsCertified p (report_of p.limits (history t))
of_run p t r certified ran steady =
    subst (λ s. IsCertified p s)
    (sym (has_certified_report p r (history t) certified (program_run p t (record {
      limits = ran.limits;
      explained = ran.explained;
      follows_it = ran.follows_it;
      steady = steady;
    })))) certified

-- a run fails by its texts for want of memory, or by a write
pub of_texts : (bytes : List ℕ) (p : Program) → program_spelled bytes ≡ Ok p → (f : failures.Failure) → IsOfTexts f
    → IsOfRun bytes f
of_texts bytes p spelled f (inl e) = subst (λ f. IsOfRun bytes f) (sym e) tt
of_texts bytes p spelled f (inr e) = subst (λ f. IsOfRun bytes f) (sym e) (p, spelled)
