use Rattle.std.proofs.Common.{◌≡◌, Ok, IfSome, rules}
use Rattle.judge_job.specs.declared.stop.Stop.TheVariants.{Failed}
use Rattle.judge_job.specs.Standing.{judged_of}
use Rattle.judge_job.specs.Endings.{head_from}
use Rattle.judge_job.proofs.Following.{all_begun, why_stopped}
use Rattle.judge_job.proofs.Legal.{accepted}
use Rattle.judge_job.proofs.Reporting.{front_on, never, of_report, tells_on}
use Rattle.judge_job.proofs.job.judge_and_report.Goals as goal

pub returns-in-Ok-clause-done : goal.returns-in-Ok-clause-done
returns-in-Ok-clause-done g c =
    let j = judged_of c.judge_log.new.judging in
    let is : IfSome (g.B.Read.remaining c.args.reader.now) (λ xs. head_from 1 xs ≡ Ok j) = search rules in
    λ _. record {
      judged = j;
      accepted = accepted _ j is;
      counts = (c.report.result, c.report.ensures, c.in-Ok.ensures.done);
      tells = tells_on c.args.every c.judge_log.new.writes c.report-2.new.self c.report-2.ensures.before _ _ _ c.judge_log.ensures.told;
    }

pub returns-in-Err-clause-stopped : goal.returns-in-Err-clause-stopped
returns-in-Err-clause-stopped g c =
    let j = judged_of c.judge_log.new.judging in
    let t = c.stopped.ensures.stops in
    λ _. record {
      judged = j;
      stop = t.0;
      status = t.2.status;
      why = why_stopped _ j c.in-Err.stop t.0 c.in-Err.ensures.stop t.1;
      told = g.F.Write.contents c.judge_log.new.faults;
      tells = tells_on c.args.every c.judge_log.new.writes c.stopped.new.writes c.stopped.ensures.whole _ _ _ c.judge_log.ensures.told;
      says = t.2.says;
      counts = t.2.counts;
    }

pub returns-clause-stopped : goal.returns-clause-stopped
returns-clause-stopped g c =
    let j = judged_of c.judge_log.new.judging in
    let is : IfSome (g.B.Read.remaining c.args.reader.now) (λ xs. head_from 1 xs ≡ Ok j) = search rules in
    λ _. record {
      judged = j;
      stop = Failed c.in-Err-report.failure;
      status = c.say.ensures.status;
      why = (of_report c.in-Err-report.failure c.in-Err-report.ensures.failure, all_begun _ j is);
      told = g.F.Write.contents c.judge_log.new.faults;
      tells = tells_on c.args.every c.judge_log.new.writes c.report-2.new.self c.report-2.ensures.before _ _ _ c.judge_log.ensures.told;
      says = c.say.ensures.says;
      counts = (c.report.result, c.report.ensures, front_on c.report-2.new.self _ _ _ _ (never _) c.report-2.ensures.front);
    }
