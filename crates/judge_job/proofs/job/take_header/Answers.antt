use Rattle.std.proofs.Common.{◌≡◌, ◌<◌, Result, length, refl, subst, inl, rules}
use Rattle.std.specs.Io.BufRead.{strip_last}
use Rattle.judge_job.specs.Logs.{Judged, Refusing, at_header, nothing}
use Rattle.judge_job.specs.Standing.{IsOfLine}
use Rattle.judge_job.specs.Endings.{head_from}
use Rattle.judge_job.proofs.Following.{starts, header_stops, before_header_stops, before_header_reads}
use Rattle.judge_job.proofs.job.take_header.Goals as goal

pub loop-place-init : goal.loop-place-init
loop-place-init g c = (search rules, starts (head_from 1) _)

pub returns-in_err-next-clause-stop : goal.returns-in_err-next-clause-stop
returns-in_err-next-clause-stop g c =
    let stop =
    before_header_stops (head_from 1) _ _ _ c.in_err-next.field-0.0 c.loop-place.invariant.1 c.in_err-next.ensures.stop in
    search (rules, stop)

pub returns-in_err-is_header_at-clause-stop : goal.returns-in_err-is_header_at-clause-stop
returns-in_err-is_header_at-clause-stop g c =
    let line = c.next.new.line.items in
    let some : 0 < length line = search rules in
    let bare : c.without_newline-bytes.result.now ≡ strip_last 10 line = search rules in
    let s = c.in_err-is_header_at.field-0.0 in
    let n = c.loop-place.place in
    let is = subst (λ b. (skipped headed : Result Judged Refusing) → IsOfLine (at_header n b skipped headed) nothing s) bare
    c.in_err-is_header_at.ensures.stop in
    let stop = header_stops (head_from 1) n _ _ _ line s c.loop-place.invariant.1 c.in_ok-next.ensures.taken some is in
    search (rules, stop)

pub returns-clause-stop : goal.returns-clause-stop
returns-clause-stop g c = (inl (inl refl), before_header_reads (head_from 1) _ _ _ c.loop-place.invariant.1)
