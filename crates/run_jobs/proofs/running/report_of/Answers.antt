use Rattle.std.proofs.Common.{◌≡◌, true, reverse, List, sym, ap, subst, ◌∙◌}
use Rattle.std.specs.Prelude.{IfOk, IfErr}
use Rattle.world_model.specs.Report.{report_of}
use Rattle.world_model.specs.declared.event.WorldEvent.{WorldEvent}
use Rattle.trace_model.specs.Explained.{past}
use Rattle.trace_walk.specs.Going.{goes_by, IsRefusedAt}
use Rattle.trace_walk.specs.History.{history}
use Rattle.trace_walk.proofs.Places.{past_reversed}
use Rattle.run_jobs.proofs.Whole.{refused_so}
use Rattle.run_jobs.proofs.running.report_of.Goals as goal

pub returns-in-Ok : goal.returns-in-Ok
returns-in-Ok g c =
    let trace = c.in_ok-report.report.trace in
    let ran = c.in_ok-report.ensures in
    let goes : goes_by g.B.Goes.next c.args.root (history trace.events) ≡ true =
    subst (λ r. IfOk r (λ _. goes_by g.B.Goes.next c.args.root (history trace.events) ≡ true)) c.in-Ok.is (ran.answered.0 ran.explained) in (
      trace,
      ran.limits ∙ c.default.ensures,
      ran.explained,
      subst (λ (w : List WorldEvent). goes_by g.B.Goes.next c.args.root w ≡ true) (sym (past_reversed trace.events)) goes,
      ran.world ∙ ap (λ l. report_of l (past (reverse trace.events))) c.default.ensures,
    )

pub returns-in-Err : goal.returns-in-Err
returns-in-Err g c =
    let trace = c.in_ok-report.report.trace in
    let ran = c.in_ok-report.ensures in
    let left : IsRefusedAt g.B.Goes.next c.args.root trace.events c.in-Err.refusal =
    subst (λ r. IfErr r (IsRefusedAt g.B.Goes.next c.args.root trace.events)) c.in-Err.is (ran.answered.1 ran.explained) in
    refused_so g.B.Goes.next c.args.root trace.events c.in-Err.refusal left
