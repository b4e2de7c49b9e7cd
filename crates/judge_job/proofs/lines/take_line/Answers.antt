use Rattle.std.proofs.Common.{◌≡◌, ◌≢◌, All, Ok, true, sym, subst, rules}
use Rattle.std.specs.Io.KnownBytes.{Consumes}
use Rattle.std.proofs.lemmas.List.Elements.{All-append}
use Rattle.std.proofs.KnownBytes.{starts_with_rest, Consumes-trans}
use Rattle.judge_job.proofs.Taking.{takes_parts, long_line_known}
use Rattle.judge_job.proofs.lines.take_line.Goals as goal

pub loop-preserved : goal.loop-preserved
loop-preserved g c =
    let step = c.append_through.ensures in
    let whole = starts_with_rest _ _ step.appends in (
      subst (All (λ x. x ≢ 10)) (sym whole) (All-append (λ x. x ≢ 10) _ _ c.loop.invariant.0 (step.no_newline_unless_done (search rules))),
      subst (Consumes _ _) (sym whole) (Consumes-trans _ _ _ _ _ c.loop.invariant.1 step.bytes),
    )

pub returns-then-branch-clause-whole : goal.returns-then-branch-clause-whole
returns-then-branch-clause-whole g c =
    let step = c.append_through.ensures in
    let done : c.append_through.result ≡ Ok true = search rules in
    λ _. takes_parts _ _ _ _ _ _ c.loop.invariant.1 c.loop.invariant.0 step.bytes step.stops (step.done_at_newline_or_end done) (step.end done) (starts_with_rest _ _ step.appends)

pub returns-then-len-clause-cut : goal.returns-then-len-clause-cut
returns-then-len-clause-cut g c =
    let step = c.append_through.ensures in
    let whole = starts_with_rest _ _ step.appends in
    let none = subst (All (λ x. x ≢ 10)) (sym whole) (All-append (λ x. x ≢ 10) _ _ c.loop.invariant.0 (step.no_newline_unless_done (search rules))) in
    let gave = subst (Consumes _ _) (sym whole) (Consumes-trans _ _ _ _ _ c.loop.invariant.1 step.bytes) in
    λ _. long_line_known _ _ _ _ gave none (search rules)
