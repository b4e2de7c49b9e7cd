use Rattle.std.proofs.Common.{◌≡◌, ◌==◌, false, length, rules}
use Rattle.std.proofs.Output.{has_written_append}
use Rattle.judge_job.proofs.stop.write_tasks.Goals as goal

pub returns : goal.returns
returns g c =
    λ plain ok.
    let several : (length c.args.tasks.now == 1) ≡ false = search rules in
    let list = c.write_list.ensures plain (search rules) in
    let rest = c.write-2.ensures.writes list.plain ok in
    rw several (has_written_append _ _ _ _ _ _ list rest)
