use Rattle.std.proofs.Common.{◌≡◌, ◌++◌, ◌∙◌, inl, refl, sym, subst}
use Rattle.job_ends.specs.Ends.{AppendsFront, failure_line}
use Rattle.job_ends.specs.declared.failure.Failure.TheVariants.{Refused}
use Rattle.judge_job.specs.declared.stop.Stop.TheVariants.{Line}
use Rattle.judge_job.specs.Standing.{judged_of, IsOwed}
use Rattle.judge_job.specs.Endings.{refusal_at}
use Rattle.judge_job.specs.Words.{why_text}
use Rattle.judge_job.proofs.Reporting.{front_on}
use Rattle.judge_job.proofs.job.stopped.Goals as goal

pub returns-clause-stops : goal.returns-clause-stops
returns-clause-stops g c =
    let n = c.in-Line.place in
    let why = c.in-Line.reason in
    let owing = c.args.judging.now.owing in
    let same : c.as_str.result.now ≡ failure_line (Refused (refusal_at n why)) ++ why_text n why owing =
    c.as_str.ensures.value ∙ c.in-Some.ensures in (
      Line n why,
      inl (sym c.in-Line.is),
      record {
        status = refl;
        says = (
          owing,
          subst (λ s. IsOwed (judged_of c.args.judging.now) s owing) c.in-Line.is c.requires.owed,
          front_on c.put.new.self c.report-2.new.self _ _ _ c.report-2.ensures.before
              (subst (λ t. AppendsFront c.put.new.self (g.F.Write.contents c.args.faults.now) (g.F.Write.contents c.put.new.out) t) same
              c.put.ensures.front),
        );
        counts = (c.report.result, c.report.ensures, c.report-2.ensures.front);
      },
    )
