use Rattle.std.proofs.Common.{◌++◌, codes, decimal, flat_map, slice_index, slice_range, subst, rules}
use Rattle.std.specs.Fmt.{HasWritten}
use Rattle.std.proofs.Output.{has_written_append}
use Rattle.judge_job.specs.Words.{last_text, next_text}
use Rattle.judge_job.proofs.stop.write_list.Goals as goal

pub returns : goal.returns
returns g c =
    λ plain ok.
    let ts = c.args.tasks.now in
    let first = c.write.ensures.writes plain (search rules) in
    let next = c.write_next.ensures first.plain (search rules) in
    let last = c.write_last.ensures next.plain ok in
    subst (λ n. HasWritten g.W.Write.write_str_gives c.args.f.now
    (((codes "tasks " ++ decimal (slice_index ts 0)) ++ flat_map next_text (slice_range ts 1 n)) ++ last_text ts) c.write_last.new.f)
    c.before_last-before.ensures (has_written_append _ _ _ _ _ _ (has_written_append _ _ _ _ _ _ first next) last)
