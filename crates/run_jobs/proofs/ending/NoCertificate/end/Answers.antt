-- The line that is written is that of the reason, or of want of memory.
use Rattle.std.proofs.Common.{rules, ◌≡◌, ◌++◌, List, ℕ, codes, inl, sym, subst}
use Rattle.job_ends.specs.Ends.{AppendsFront}
use Rattle.run_laws.specs.Luck.{luck_at_text}
use Rattle.run_jobs.specs.declared.ending.NoCertificate.TheVariants.{Failure, Luck}
use Rattle.run_jobs.proofs.Reasons.{of_failure, of_memory}
use Rattle.run_jobs.proofs.ending.NoCertificate.end.Goals as goal

pub returns-in-Failure-clause-reported : goal.returns-in-Failure-clause-reported
returns-in-Failure-clause-reported g c =
    let r = c.end.ensures.reported in
    (Failure r.0, r.1, of_failure c.args.self c.in-Failure.failure r.0 c.in-Failure.is r.2, r.3)

pub returns-in-Ok-clause-reported : goal.returns-in-Ok-clause-reported
returns-in-Ok-clause-reported g c =
    let line : c.as_str.result.now ≡ luck_at_text c.in-Luck.at ++ codes "\n" = search rules in (
      Luck c.in-Luck.at,
      sym c.refused_with.ensures.status,
      inl (sym c.in-Luck.is),
      subst (λ (text : List ℕ). AppendsFront c.refused_with.result.reported (g.F.Write.contents c.args.faults.now)
          (g.F.Write.contents c.refused_with.new.faults) text) line c.refused_with.ensures.line,
    )

pub returns-in-Err-clause-reported : goal.returns-in-Err-clause-reported
returns-in-Err-clause-reported g c =
    let r = c.end-in-Err.ensures.reported in
    (Failure r.0, r.1, of_memory c.args.self r.0 r.2, r.3)
