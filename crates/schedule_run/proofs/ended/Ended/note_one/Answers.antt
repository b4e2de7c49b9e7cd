use Rattle.std.proofs.Common.{◌≡◌, ◌+◌, true, subst, arith}
use Rattle.world_model.specs.Tasks.{is_ended}
use Rattle.schedule_run.proofs.ended.Ended.note_one.Goals as goal

pub returns : goal.returns
returns c = λ w have is. c.note.ensures w have (λ i lt.
    let same : c.args.task ≡ c.args.task + i = omega (arith, lt) in
    subst (λ k. is_ended k w ≡ true) same is)
