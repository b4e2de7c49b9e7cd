use Rattle.judge_job.proofs.Digits.{after_front}
use Rattle.judge_job.proofs.compact.after.Goals as goal

pub returns : goal.returns
returns c = after_front c.args.bytes.now c.args.front.now c.strip_prefix.result c.strip_prefix.ensures.cases
