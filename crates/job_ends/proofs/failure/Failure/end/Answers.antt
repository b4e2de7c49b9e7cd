use Rattle.std.proofs.Common.{rules, ◌≡◌, ◌++◌, List, ℕ, codes, inl, inr, refl, sym, subst}
use Rattle.phase_modes.specs.Refusal.{refusal_text}
use Rattle.phase_modes.specs.declared.refusal.Refusal.TheVariants.{Memory}
use Rattle.job_ends.specs.declared.failure.Failure.TheVariants.{Refused}
use Rattle.job_ends.specs.Ends.{AppendsFront}
use Rattle.job_ends.proofs.Reported.{memory_line}
use Rattle.job_ends.proofs.failure.Failure.end.Goals as goal

pub returns-in-Ok-clause-reported : goal.returns-in-Ok-clause-reported
returns-in-Ok-clause-reported g c =
    let line : c.as_str.result.now ≡ refusal_text c.in-Refused.refusal ++ codes "\n" = search rules in (
      Refused c.in-Refused.refusal,
      sym c.report.ensures.status,
      inl (sym c.in-Refused.is),
      subst (λ (text : List ℕ). AppendsFront c.report.result.reported (g.F.Write.contents c.args.faults.now)
          (g.F.Write.contents c.report.new.faults) text) line c.report.ensures.line,
    )

pub returns-in-Err-clause-reported : goal.returns-in-Err-clause-reported
returns-in-Err-clause-reported g c = (
  Refused Memory,
  sym c.report-in-Err.ensures.status,
  inr refl,
  subst (λ (text : List ℕ).
      AppendsFront c.report-in-Err.result.reported (g.F.Write.contents c.args.faults.now)
      (g.F.Write.contents c.report-in-Err.new.faults) text) memory_line c.report-in-Err.ensures.line,
)
