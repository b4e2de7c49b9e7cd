use Rattle.std.proofs.Common.{subst, sym, rules}
use Rattle.judge_job.specs.Logs.{nothing}
use Rattle.judge_job.specs.Standing.{judged_of}
use Rattle.judge_job.specs.Endings.{IsStop, head_from, rest_from}
use Rattle.judge_job.proofs.Following.{done_there, stop_there}
use Rattle.judge_job.proofs.Reporting.{tells_nothing}
use Rattle.judge_job.proofs.job.judge_log.Goals as goal

pub returns-in_err-first-clause-told : goal.returns-in_err-first-clause-told
returns-in_err-first-clause-told g c = tells_nothing _ _ (judged_of c.args.judging.now) _ c.requires.fresh

pub returns-in_err-first-clause-stop : goal.returns-in_err-first-clause-stop
returns-in_err-first-clause-stop g c =
    let stop = subst (λ j. IsStop (head_from 1) (g.B.Read.remaining c.args.reader.now) j c.in_err-first.field-0.0)
    (sym c.requires.fresh) c.in_err-first.ensures.stop in
    search (rules, stop)

pub returns-in_err-first-clause-owed : goal.returns-in_err-first-clause-owed
returns-in_err-first-clause-owed g c =
    let owed = c.in_err-first.ensures.plain (judged_of c.args.judging.now) c.args.judging.now.owing in
    search (rules, owed)

pub returns-clause-done : goal.returns-clause-done
returns-clause-done g c =
    done_there (head_from 1) (rest_from c.in_ok-first.first nothing) _ _ _ c.judge_lines.result (search rules)
    c.judge_lines.ensures.done

pub returns-clause-stop : goal.returns-clause-stop
returns-clause-stop g c =
    stop_there (head_from 1) (rest_from c.in_ok-first.first nothing) _ _ (judged_of c.judge_lines.new.judging) c.judge_lines.result (search rules)
    c.judge_lines.ensures.stop
