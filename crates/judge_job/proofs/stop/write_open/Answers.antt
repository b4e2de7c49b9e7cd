use Rattle.std.proofs.Common.{◌++◌, codes, decimal, subst, rules}
use Rattle.std.specs.Fmt.{HasWritten}
use Rattle.std.proofs.Output.{has_written_append}
use Rattle.judge_job.specs.Words.{tasks_text}
use Rattle.judge_job.proofs.Texts.{of_5}
use Rattle.judge_job.proofs.stop.write_open.Goals as goal

pub returns : goal.returns
returns g c =
    λ plain ok.
    let first =
    of_5 (λ t. HasWritten g.W.Write.write_str_gives c.args.f.now t c.write.new.self) (codes "phase ") (decimal c.args.owing.now.phase)
    (codes " of phaser ") (decimal c.args.phaser) (codes " isn't closed: ") (c.write.ensures.writes plain (search rules)) in
    let second = c.write_tasks.ensures first.plain (search rules) in
    let third = c.write-2.ensures.writes second.plain ok in
    subst (λ ts. HasWritten g.W.Write.write_str_gives c.args.f.now
    (((codes "phase " ++ decimal c.args.owing.now.phase ++ codes " of phaser " ++ decimal c.args.phaser ++ codes " isn't closed: ")
    ++ tasks_text ts) ++ codes " signalled it") c.write-2.new.self)
    c.as_slice.ensures.value (has_written_append _ _ _ _ _ _ (has_written_append _ _ _ _ _ _ first second) third)
