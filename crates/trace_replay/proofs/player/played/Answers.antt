use Rattle.std.proofs.Common.{[], None, subst, rules}
use Rattle.phase_modes.specs.declared.limits.Limits.{Limits}
use Rattle.trace_replay.specs.inner.HandedOver.{HandedOver, HandsOver}
use Rattle.trace_replay.proofs.Walking.{is_whole}
use Rattle.trace_replay.proofs.player.played.Goals as goal

pub returns : goal.returns
returns c =
    let t = c.args.trace.now in
    let s = c.take_all.new.self in
    let start : HandedOver t.limits [] c.in_ok-player.player =
    subst (λ (l : Limits). HandedOver l [] c.in_ok-player.player) c.limits.ensures.limits c.in_ok-player.ensures.first in
    let over = c.in_default.ensures t.limits start in
    let handed : HandsOver t.limits t.events None s = search (rules, over) in
    (is_whole t s handed c.if-not-player.false, handed.0.limits, handed.0.stands)
