use Rattle.std.proofs.Common.{inl, inr, refl, subst, rules}
use Rattle.phase_modes.specs.declared.refusal.Refusal.TheVariants.{Memory}
use Rattle.job_ends.specs.declared.failure.Failure.TheVariants.{Refused}
use Rattle.judge_job.specs.declared.stop.Stop.TheVariants.{Failed}
use Rattle.judge_job.specs.Standing.{judged_of}
use Rattle.judge_job.specs.Endings.{IsAccepted, IsStopped}
use Rattle.judge_job.proofs.Following.{none_begun}
use Rattle.judge_job.proofs.Pieces.{unread}
use Rattle.judge_job.proofs.Reporting.{tells_nothing}
use Rattle.judge_job.proofs.job.judge_from.Goals as goal

pub returns-in_default-clause-stopped : goal.returns-in_default-clause-stopped
returns-in_default-clause-stopped g c =
    let j = judged_of c.new-judging.result in
    let t = c.fail.ensures.stops in
    λ _. record {
      judged = j;
      stop = Failed (Refused Memory);
      status = t.status;
      why = (inl (inr refl), none_begun _ j c.new-judging.ensures.judged);
      told = g.F.Write.contents c.args.faults.now;
      tells = tells_nothing _ _ j _ c.new-judging.ensures.judged;
      says = t.says;
      counts = t.counts;
    }

pub returns-clause-stopped : goal.returns-clause-stopped
returns-clause-stopped g c = λ fails.
    let ready = c.in-Ok.ensures in
    let same = unread (λ r. g.R.Read.remaining r.now) c.in-Ok.pieces (g.R.Read.remaining c.args.reader.now) (search rules) ready.empty ready.capacity in
    subst (λ x. IsStopped x c.args.every c.judge_and_report.new.writes c.judge_and_report.result (g.W.Write.contents c.args.out.now)
    (g.W.Write.contents c.judge_and_report.new.out) (g.F.Write.contents c.args.faults.now) (g.F.Write.contents c.judge_and_report.new.faults)) same
    (c.judge_and_report.ensures.stopped fails)

pub returns-clause-done : goal.returns-clause-done
returns-clause-done g c = λ done.
    let ready = c.in-Ok.ensures in
    let same = unread (λ r. g.R.Read.remaining r.now) c.in-Ok.pieces (g.R.Read.remaining c.args.reader.now) (search rules) ready.empty ready.capacity in
    subst (λ x. IsAccepted x c.args.every c.judge_and_report.new.writes (g.W.Write.contents c.args.out.now)
    (g.W.Write.contents c.judge_and_report.new.out) (g.F.Write.contents c.args.faults.now) (g.F.Write.contents c.judge_and_report.new.faults)) same
    (c.judge_and_report.ensures.done done)
