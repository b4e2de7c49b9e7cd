use Rattle.std.proofs.Common.{flat_map, take}
use Rattle.std.specs.Fmt.{HasWritten, IsPlainFormatter}
use Rattle.world_model.specs.ReportLines.{phaser_text}
use Rattle.world_model.proofs.report_lines.write_phasers.Given as goal

abbrev pub invariant-loop-phaser : goal.invariant-loop-phaser
invariant-loop-phaser g l =
    IsPlainFormatter l.initial.f
    → HasWritten g.W.Write.write_str_gives l.initial.f (flat_map phaser_text (take l.phaser-index l.phasers)) l.f
