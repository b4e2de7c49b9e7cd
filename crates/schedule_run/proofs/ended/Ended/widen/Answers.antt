use Rattle.std.proofs.Common.{◌≡◌, ◌+◌, ◌<◌, true, subst, arith}
use Rattle.world_model.specs.Tasks.{is_ended}
use Rattle.schedule_run.proofs.PassedOver.{both_runs}
use Rattle.schedule_run.proofs.ended.Ended.widen.Goals as goal

pub returns-in-Some-checked_add : goal.returns-in-Some-checked_add
returns-in-Some-checked_add c = λ w have.
    let t = c.args.task in
    let both = c.in-Some-checked_add.ensures.1 in
    let next = c.in-Some.ensures.1 in
    c.note.ensures w have (λ i lt. both_runs w t c.from-run.result c.from-more.result
    (λ j lj. have t j (subst (λ n. j < n) c.from-run.ensures lj))
    (λ j lj. subst (λ k. is_ended (k + j) w ≡ true) next (have c.in-Some.next j (subst (λ n. j < n) c.from-more.ensures lj)))
    i (omega (arith, lt, both)))
