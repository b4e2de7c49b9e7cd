-- Totals with one event more.
use Rattle.std.specs.Prelude.{◌+◌, ℤ}
use Rattle.phase_model.specs.declared.history.Event.{Event}
use Rattle.phase_model.specs.declared.history.Event.TheVariants.{Make, Reg, Sig, Pass, Send, Drop}
use Rattle.phase_model.specs.Amounts.{up_of, down_of}
use Rattle.world_model.specs.declared.report.TotalsLine.{TotalsLine}

-- one value more
abbrev pub totals_sent : ℤ → TotalsLine → TotalsLine
totals_sent v l = record l { sends = l.sends + 1; up = l.up + up_of v; down = l.down + down_of v }

abbrev pub totals_with : Event → TotalsLine → TotalsLine
totals_with (Make t m) l = record l { registered = l.registered + 1 }
totals_with (Reg q t m) l = record l { registered = l.registered + 1 }
totals_with (Sig t x) l = record l { signals = l.signals + 1 }
totals_with (Pass t) l = record l { passes = l.passes + 1 }
totals_with (Drop t) l = record l { drops = l.drops + 1 }
totals_with (Send t a v) l = totals_sent v l
totals_with _ l = l
