use Rattle.judge_job.proofs.Spelled.{pass_spelled, drop_spelled, claim_spelled, did_spelled}
use Rattle.judge_job.proofs.compact.named.Goals as goal

pub returns-in-Some-after : goal.returns-in-Some-after
returns-in-Some-after c =
    let task = c.in_ok-only_task.ensures in
    pass_spelled _ c.args.bytes.now _ task.fits task.written c.in-Some-after.ensures

pub returns-in-Some-after-2 : goal.returns-in-Some-after-2
returns-in-Some-after-2 c =
    let task = c.in_ok-only_task-2.ensures in
    drop_spelled _ c.args.bytes.now _ task.fits task.written c.in-Some-after-2.ensures

pub returns-in-Some-after-3 : goal.returns-in-Some-after-3
returns-in-Some-after-3 c =
    let task = c.in_ok-only_task-3.ensures in
    claim_spelled _ c.args.bytes.now _ task.fits task.written c.in-Some-after-3.ensures

pub returns-in-Some-after-4 : goal.returns-in-Some-after-4
returns-in-Some-after-4 c =
    let task = c.in_ok-only_task-4.ensures in
    did_spelled _ c.args.bytes.now _ task.fits task.written c.in-Some-after-4.ensures
