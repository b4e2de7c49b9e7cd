use Rattle.std.proofs.Common.{List, Option, IfSome, Ok, sym, subst}
use Rattle.trace_model.specs.Run.{Run}
use Rattle.trace_replay.specs.inner.Turned.{IsTurned}
use Rattle.trace_replay.specs.declared.merging.Mark.{Mark}
use Rattle.trace_replay.specs.Merging.{IsMerged}
use Rattle.trace_replay.proofs.OfParts.{said_parts, said_rises}
use Rattle.trace_replay.proofs.merging.merge.Goals as goal

pub returns-in-Some-clause-of_parts : goal.returns-in-Some-clause-of_parts
returns-in-Some-clause-of_parts c =
    let t = subst (λ (o : Option Run). IfSome o (IsTurned c.args.limits c.args.parts.now)) c.in-Some.is c.in_ok-trace.ensures.turned in
    said_parts c.args.limits c.args.parts.now t.0 (Ok c.in-Some.trace) t.1 t.2

pub returns-in-Some-clause-rising : goal.returns-in-Some-clause-rising
returns-in-Some-clause-rising c =
    let t = subst (λ (o : Option Run). IfSome o (IsTurned c.args.limits c.args.parts.now)) c.in-Some.is c.in_ok-trace.ensures.turned in
    said_rises c.args.limits c.args.parts.now t.0 (Ok c.in-Some.trace) t.1 t.2

pub returns-clause-of_parts : goal.returns-clause-of_parts
returns-clause-of_parts c =
    said_parts c.args.limits c.args.parts.now c.deref.result.now c.trace_of.result
    (subst (λ (ms : List Mark). IsMerged c.args.parts.now ms) (sym c.deref.ensures.value) c.in_ok-marks.ensures) c.trace_of.ensures

pub returns-clause-rising : goal.returns-clause-rising
returns-clause-rising c =
    said_rises c.args.limits c.args.parts.now c.deref.result.now c.trace_of.result
    (subst (λ (ms : List Mark). IsMerged c.args.parts.now ms) (sym c.deref.ensures.value) c.in_ok-marks.ensures) c.trace_of.ensures
