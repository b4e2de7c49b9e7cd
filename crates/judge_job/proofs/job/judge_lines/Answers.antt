use Rattle.std.proofs.Common.{◌≡◌, ◌<◌, length, Ok, Err, refl, ap, sym, subst, inl, rules}
use Rattle.std.specs.Io.BufRead.{strip_last}
use Rattle.judge_job.specs.Logs.{Judged, after_line, nothing}
use Rattle.judge_job.specs.Standing.{judged_of, IsOfLine, IsOwed}
use Rattle.judge_job.specs.Endings.{IsStop, rest_from}
use Rattle.judge_job.proofs.Following.{took_line, line_stops, next_stops, read_stops, starts_at}
use Rattle.judge_job.proofs.Reporting.{tells_added, tells_kept, tells_nothing}
use Rattle.judge_job.proofs.job.judge_lines.Goals as goal

pub loop-place-init : goal.loop-place-init
loop-place-init g c = (
  search rules,
  search rules,
  starts_at c.args.first (judged_of c.args.judging.now) _ c.requires.fresh,
  refl,
  tells_nothing _ _ (judged_of c.args.judging.now) _ c.requires.fresh,
)

pub loop-place-preserved : goal.loop-place-preserved
loop-place-preserved g c =
    let line = c.next.new.line.items in
    let some : 0 < length line = search rules in
    let bare : c.without_newline-bytes.result.now ≡ strip_last 10 line = search rules in
    let is =
    subst (λ b. after_line c.loop-place.place (judged_of c.loop-place.judging) b ≡ Ok (judged_of c.judge_and_tell.new.judging))
    bare c.in_ok-judge_and_tell.ensures.judged in (
      search rules,
      search rules,
      took_line (rest_from c.args.first nothing) c.loop-place.place (judged_of c.loop-place.judging)
          (judged_of c.judge_and_tell.new.judging) _ _ _ line c.loop-place.invariant.2 c.in_ok-next.ensures.taken some is,
      search rules,
      tells_added c.args.telling.now.every c.loop-place.writes c.judge_and_tell.new.writes c.judge_and_tell.ensures.whole
          c.loop-place.telling.every _ _ _ _ _ _ c.loop-place.invariant.3 c.loop-place.invariant.4 c.in_ok-judge_and_tell.ensures.told,
    )

pub returns-in_err-judge_and_tell-clause-stop : goal.returns-in_err-judge_and_tell-clause-stop
returns-in_err-judge_and_tell-clause-stop g c =
    let line = c.next.new.line.items in
    let some : 0 < length line = search rules in
    let bare : c.without_newline-bytes.result.now ≡ strip_last 10 line = search rules in
    let s = c.in_err-judge_and_tell.field-0.0 in
    let refused =
    subst (λ b. IsOfLine (after_line c.loop-place.place (judged_of c.loop-place.judging) b) (judged_of c.loop-place.judging) s) bare
    c.in_err-judge_and_tell.ensures.stop in
    let stop =
    line_stops (rest_from c.args.first nothing) c.loop-place.place (judged_of c.loop-place.judging) _ _ _ line s
    c.loop-place.invariant.2 c.in_ok-next.ensures.taken some refused in
    let same = subst (λ j. IsStop (rest_from c.args.first nothing) (g.B.Read.remaining c.args.reader.now) j s)
    (sym c.in_err-judge_and_tell.ensures.kept) stop in
    search (rules, same)

pub returns-in_err-judge_and_tell-clause-owed : goal.returns-in_err-judge_and_tell-clause-owed
returns-in_err-judge_and_tell-clause-owed g c =
    let s = c.in_err-judge_and_tell.field-0.0 in
    let owed =
    subst (λ j. IsOwed j s c.judge_and_tell.new.judging.owing) (sym c.in_err-judge_and_tell.ensures.kept)
    c.in_err-judge_and_tell.ensures.owed in
    let is : c.from_residual-in_err-judge_and_tell.result ≡ Err s = search rules in
    rw is owed

pub returns-in_err-judge_and_tell-clause-told : goal.returns-in_err-judge_and_tell-clause-told
returns-in_err-judge_and_tell-clause-told g c =
    tells_kept c.args.telling.now.every c.loop-place.writes c.judge_and_tell.new.writes _ _ _ _ _ c.judge_and_tell.ensures.whole
    (ap (λ (j : Judged). j.events) c.in_err-judge_and_tell.ensures.kept)
    (ap g.F.Write.contents c.in_err-judge_and_tell.ensures.quiet) c.loop-place.invariant.4

pub returns-in_err-next-clause-stop : goal.returns-in_err-next-clause-stop
returns-in_err-next-clause-stop g c =
    let stop =
    next_stops (rest_from c.args.first nothing) _ (judged_of c.loop-place.judging) _ _ c.in_err-next.field-0.0
    c.loop-place.invariant.2 c.in_err-next.ensures.stop in
    search (rules, stop)

pub returns-clause-stop : goal.returns-clause-stop
returns-clause-stop g c =
    (inl (inl refl), read_stops (rest_from c.args.first nothing) _ (judged_of c.loop-place.judging) _ _ c.loop-place.invariant.2)
