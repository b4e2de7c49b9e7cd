use Rattle.std.proofs.Common.{◌≡◌, ◌≢◌, Err, false, rules, refl, ap}
use Rattle.phaser_judge.specs.declared.refused.Refused.TheVariants.{Memory}
use Rattle.phaser_judge.specs.Standings.{standing, may_come}
use Rattle.phaser_judge.specs.Reasons.{verdict_at}
use Rattle.judge_job.specs.Standing.{judged_of}
use Rattle.judge_job.proofs.Reporting.{owed_of}
use Rattle.judge_job.proofs.judging.Judging.event.Goals as goal

-- src/judging.rt
pub returns-in-Err : goal.returns-in-Err
returns-in-Err c =
    let other : c.in-Err.refused ≢ Memory = search rules in
    let e = c.args.event.now in
    let may : may_come (standing e.phaser c.args.self.now.judge.events) e.event ≡ false = c.in-Err.ensures.refused c.requires other in
    let said : verdict_at (standing e.phaser c.args.self.now.judge.events) e.event ≡ Err c.in-Err.refused =
    c.in-Err.ensures.reason c.requires other in record {
      judged = tt;
      stop = rw (may, said) refl;
      owed = owed_of (judged_of c.args.self.now) c.args.place e c.in-Err.refused _ (λ waited. c.in-Err.ensures.owing c.requires (ap Err waited));
      kept = rw (c.in-Err.ensures.ended other) refl;
      over = tt;
      added = tt;
    }
