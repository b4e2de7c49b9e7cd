-- The three tables' lines are those of the state.
use Rattle.std.proofs.Common.{List, map, ap, ◌∙◌}
use Rattle.phase_model.specs.Rules.{Story}
use Rattle.finish_core.specs.Finish.{FinishStory}
use Rattle.world_model.specs.Report.{totals_line}
use Rattle.world_model.specs.SumLines.{lines_of}
use Rattle.world_records.specs.TaskState.{TaskState}
use Rattle.world_records.specs.inner.Reports.{story_in, made, born, opened, task_row, finish_row}
use Rattle.world_records.proofs.Reported.{same_report}
use Rattle.world_core.proofs.tables.Tables.kept_report.Goals as goal

pub returns-clause-report : goal.returns-clause-report
returns-clause-report c =
    let l = c.self.inside.limits in
    rw (← c.self.view_is)
    (same_report _ _
    (c.in_ok-phasers.ensures.lines ∙ ap (λ (ps : List Story). map (λ n. lines_of n (story_in ps n)) (made ps l.phasers)) c.deref.ensures.value)
    (c.in_ok-tasks.ensures.rows ∙ ap (λ (ts : List TaskState). map (task_row ts) (born ts l.tasks)) c.deref-2.ensures.value)
    (c.in_ok-finishes.ensures.rows ∙ ap (λ (fs : List FinishStory). map (finish_row fs) (opened fs l.finishes)) c.deref-3.ensures.value)
    (c.in_ok-phasers.ensures.totals ∙ ap (λ (ps : List Story). totals_line (map (λ n. (story_in ps n).past) (made ps l.phasers))) c.deref.ensures.value))
