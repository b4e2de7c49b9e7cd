use Rattle.std.proofs.Common.{◌≡◌, ◌∙◌}
use Rattle.trace_replay.specs.Merging.{later_of}
use Rattle.trace_replay.proofs.Marking.{one_more, later_here, earlier_here}
use Rattle.trace_replay.proofs.merging.mark_part.Goals as goal
use Rattle.trace_replay.proofs.merging.mark_part.Goals.{then-not-late, else-not-late}

pub loop-place-preserved : goal.loop-place-preserved
loop-place-preserved c =
    let e = c.entry-ticket.result in
    let most = c.loop-place.most in
    let later : c.if-not-late.most ≡ later_of most e.0 = elim c.if-not-late.branch [
      | then-not-late w ↦ w.most-is ∙ later_here most e.0 w.if-not-late.true
      | else-not-late w ↦ w.most-is ∙ earlier_here most e.0 w.if-not-late.false
    ] in
    one_more c.args.part.now c.loop-place.place most c.if-not-late.most e c.loop-place.marks.items c.push.new.self.items c.entry-ticket.ensures c.in_ok-push.ensures.items later ∙ c.loop-place.invariant
