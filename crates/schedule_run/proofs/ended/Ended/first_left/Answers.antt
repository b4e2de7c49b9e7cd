use Rattle.std.proofs.Common.{◌<◌, subst, arith}
use Rattle.schedule_run.proofs.ended.Ended.first_left.Goals as goal
use Rattle.schedule_run.proofs.ended.Ended.first_left.Goals.{then-over-gt0, else-over-gt0}

pub returns-clause-over : goal.returns-clause-over
returns-clause-over c = λ w have i lt.
    have c.args.task i (subst (λ n. i < n) c.from-over.ensures (omega (arith, lt, c.min.ensures, c.saturating_add.ensures)))

pub returns-clause-known : goal.returns-clause-known
returns-clause-known c = λ w have.
    elim c.if-over-gt0.branch [
      | then-over-gt0 x ↦ rw x.self-is (x.widen.ensures w have)
      | else-over-gt0 x ↦ rw x.self-is have
    ]
