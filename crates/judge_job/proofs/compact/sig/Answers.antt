use Rattle.std.proofs.Common.{arith, rules}
use Rattle.judge_job.proofs.Spelled.{sig_spelled, single_spelled}
use Rattle.judge_job.proofs.compact.sig.Goals as goal

pub returns-then-is_end : goal.returns-then-is_end
returns-then-is_end c = let task = c.in_ok-task.ensures in sig_spelled _ c.args.bytes.now _ task.fits task.written (search rules)

pub returns-then-single-le4294967295 : goal.returns-then-single-le4294967295
returns-then-single-le4294967295 c =
    let task = c.in_ok-task.ensures in
    single_spelled _ c.args.bytes.now _ task.fits task.written _ _ (omega arith) c.in_ok-after.ensures c.in_ok-single.ensures.written
