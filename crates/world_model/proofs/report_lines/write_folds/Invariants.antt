use Rattle.std.proofs.Common.{flat_map, take}
use Rattle.std.specs.Fmt.{HasWritten, IsPlainFormatter}
use Rattle.world_model.specs.ReportLines.{fold_row}
use Rattle.world_model.proofs.report_lines.write_folds.Given as goal

abbrev pub invariant-loop-fold : goal.invariant-loop-fold
invariant-loop-fold g l =
    IsPlainFormatter l.initial.f
    → HasWritten g.W.Write.write_str_gives l.initial.f (flat_map (fold_row l.fn.phaser) (take l.fold-index l.folds)) l.f
