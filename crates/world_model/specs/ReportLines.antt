-- The lines that a report is printed as, each with a newline.
use Rattle.std.specs.Prelude.{ℕ, List, [], ◌∷◌, ◌++◌, flat_map, Option, Some, None, codes, decimal}
use Rattle.phase_modes.specs.declared.refusal.Refusal.{Refusal}
use Rattle.phase_modes.specs.Refusal.{name_of}
use Rattle.phase_modes.specs.RefusalNumbers.{refusal_with}
use Rattle.phase_model.specs.ReplyLines.{look_text}
use Rattle.world_model.specs.declared.report.FinishLine.{FinishLine}
use Rattle.world_model.specs.declared.report.FoldLine.{FoldLine}
use Rattle.world_model.specs.declared.report.TaskLine.{TaskLine}
use Rattle.world_model.specs.declared.report.TotalsLine.{TotalsLine}
use Rattle.world_model.specs.Report.{PhaserReport, Report}

-- what an accumulator folded in a phase
abbrev pub fold_text : FoldLine → List ℕ
fold_text l =
    codes "phase " ++ decimal l.phase ++ codes " acc " ++ decimal l.acc ++ codes " " ++ look_text l.value

-- it, after the number of its phaser
abbrev pub fold_row : ℕ → FoldLine → List ℕ
fold_row n l = codes "phaser " ++ decimal n ++ codes " " ++ fold_text l ++ codes "\n"

-- a phaser and its phases, and then each of its folds
abbrev pub phaser_text : PhaserReport → List ℕ
phaser_text r =
    codes "phaser " ++ decimal r.phaser ++ codes " phases " ++ decimal r.phases ++ codes "\n"
    ++ flat_map (fold_row r.phaser) r.folds

-- the name of a refusal, after a blank; of a number that no refusal has, nothing
abbrev pub name_text : Option Refusal → List ℕ
name_text None = []
name_text (Some r) = codes " " ++ name_of r

-- how a task ended
abbrev pub end_text : Option ℕ → List ℕ
end_text None = codes " ended"
end_text (Some n) = codes " refused " ++ decimal n ++ name_text (refusal_with n)

abbrev pub task_text : TaskLine → List ℕ
task_text l = codes "task " ++ decimal l.task ++ end_text l.refused

abbrev pub task_row : TaskLine → List ℕ
task_row l = task_text l ++ codes "\n"

abbrev pub finish_text : FinishLine → List ℕ
finish_text l = codes "finish " ++ decimal l.finish ++ codes " tasks " ++ decimal l.tasks

abbrev pub finish_row : FinishLine → List ℕ
finish_row l = finish_text l ++ codes "\n"

abbrev pub totals_text : TotalsLine → List ℕ
totals_text l =
    (codes "totals registered " ++ decimal l.registered ++ codes " signals " ++ decimal l.signals)
    ++ (codes " passes " ++ decimal l.passes ++ codes " drops " ++ decimal l.drops
    ++ codes " sends " ++ decimal l.sends)
    ++ (codes " up " ++ decimal l.up ++ codes " down " ++ decimal l.down)

abbrev pub totals_row : TotalsLine → List ℕ
totals_row l = totals_text l ++ codes "\n"

-- all lines of a report
abbrev pub report_text : Report → List ℕ
report_text r =
    flat_map phaser_text r.phasers ++ flat_map task_row r.tasks ++ flat_map finish_row r.finishes
    ++ totals_row r.totals
