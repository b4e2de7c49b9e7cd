use Rattle.std.proofs.Common.{◌≡◌, ◌==◌, true, length, codes, decimal, rules}
use Rattle.std.specs.Fmt.{HasWritten}
use Rattle.judge_job.proofs.Texts.{of_5}
use Rattle.judge_job.proofs.stop.write_closing.Goals as goal

pub returns : goal.returns
returns g c =
    λ plain ok.
    let none : (length c.args.owing.now.tasks.items == 0) ≡ true = search rules in
    rw none
    (of_5 (λ t. HasWritten g.W.Write.write_str_gives c.args.f.now t c.write.new.self) (codes "task ") (decimal c.args.task)
    (codes " had to wait: the single of its phase of phaser ") (decimal c.args.phaser) (codes " isn't done")
    (c.write.ensures.writes plain ok))
