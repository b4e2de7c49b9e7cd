use Rattle.std.proofs.Common.{codes, decimal}
use Rattle.std.specs.Fmt.{HasWritten}
use Rattle.judge_job.proofs.Texts.{of_5}
use Rattle.judge_job.proofs.stop.write_wait.Goals as goal

pub returns-in-Sig : goal.returns-in-Sig
returns-in-Sig g c =
    λ plain ok.
    rw c.in-Sig.is
    (of_5 (λ t. HasWritten g.W.Write.write_str_gives c.args.f.now t c.write.new.self) (codes "task ") (decimal c.in-Sig.task)
    (codes " had to wait: the bound of phaser ") (decimal c.args.phaser) (codes " holds its signal back")
    (c.write.ensures.writes plain ok))
