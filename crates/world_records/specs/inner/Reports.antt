-- What a world is reported as, by its state alone.
use Rattle.std.specs.Prelude.{ℕ, not, if◌then◌else◌, List, [], ◌∷◌, get_or, length, map, filter}
use Rattle.phase_modes.specs.Limits.{default_limits}
use Rattle.phase_modes.specs.Lists.{is_empty}
use Rattle.phase_model.specs.Rules.{Story}
use Rattle.phase_model.specs.declared.history.Event.{Event}
use Rattle.finish_core.specs.declared.event.FinishEvent.{FinishEvent}
use Rattle.finish_core.specs.Finish.{FinishStory, fresh, spawned_tasks}
use Rattle.world_model.specs.declared.report.FinishLine.{FinishLine}
use Rattle.world_model.specs.declared.report.TaskLine.{TaskLine}
use Rattle.world_model.specs.declared.report.TotalsLine.{TotalsLine}
use Rattle.world_model.specs.Report.{Report, PhaserReport, below, totals_line}
use Rattle.world_model.specs.SumLines.{lines_of, plus}
use Rattle.world_records.specs.TaskState.{TaskState}
use Rattle.world_records.specs.WorldState.{WorldState}
use Rattle.world_records.specs.Kept.{blank_task, blank_story}

-- a line of each table; past the tables stand numbers that aren't in use
abbrev pub story_in : List Story → ℕ → Story
story_in stories n = get_or stories n (blank_story default_limits)

abbrev pub line_in : List TaskState → ℕ → TaskState
line_in lines t = get_or lines t blank_task

abbrev pub finish_in : List FinishStory → ℕ → FinishStory
finish_in finishes f = get_or finishes f (fresh 0)

-- of the first n numbers those of phasers that were made, of tasks that were born, and of finishes that were
-- opened
abbrev pub made : List Story → ℕ → List ℕ
made stories n = filter (λ i. not (is_empty (story_in stories i).past)) (below n)

abbrev pub born : List TaskState → ℕ → List ℕ
born lines n = filter (λ t. (line_in lines t).is_born) (below n)

abbrev pub opened : List FinishStory → ℕ → List ℕ
opened finishes n = filter (λ f. not (is_empty (finish_in finishes f).past)) (below n)

-- the line of a task, and of a finish
abbrev pub task_row : List TaskState → ℕ → TaskLine
task_row lines t = record { task = t; refused = (line_in lines t).refused }

abbrev pub finish_row : List FinishStory → ℕ → FinishLine
finish_row finishes f = record { finish = f; tasks = length (spawned_tasks (finish_in finishes f).past) }

-- the lines of a number with this story, this task and this finish: one, or none
abbrev pub row_if_made : ℕ → Story → List PhaserReport
row_if_made n s = if is_empty s.past then [] else lines_of n s ∷ []

abbrev pub row_if_born : ℕ → TaskState → List TaskLine
row_if_born t k = if k.is_born then record { task = t; refused = k.refused } ∷ [] else []

abbrev pub row_if_opened : ℕ → List FinishEvent → List FinishLine
row_if_opened f h = if is_empty h then [] else record { finish = f; tasks = length (spawned_tasks h) } ∷ []

-- the totals with those of this history, if the phaser was made
abbrev pub with_if_made : List Event → TotalsLine → TotalsLine
with_if_made h l = if is_empty h then l else plus l (totals_line (h ∷ []))

abbrev pub kept_report : WorldState → Report
kept_report s = record {
  phasers = map (λ n. lines_of n (story_in s.phasers n)) (made s.phasers s.limits.phasers);
  tasks = map (task_row s.tasks) (born s.tasks s.limits.tasks);
  finishes = map (finish_row s.finishes) (opened s.finishes s.limits.finishes);
  totals = totals_line (map (λ n. (story_in s.phasers n).past) (made s.phasers s.limits.phasers));
}
