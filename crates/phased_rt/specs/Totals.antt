-- What a run's totals are, read off its trace and its report.
use Rattle.std.specs.Prelude.{◌≡◌, Bool, true, false, List, map, reverse, count_by}
use Rattle.phase_modes.specs.declared.limits.Limits.{Limits}
use Rattle.phase_model.specs.Amounts.{Amount, totals}
use Rattle.share_book.specs.declared.gathering.Totals.{Totals}
use Rattle.share_book.specs.Accounts.{sum, amount_of}
use Rattle.world_model.specs.declared.event.WorldEvent.{WorldEvent}
use Rattle.world_model.specs.declared.report.TotalsLine.{TotalsLine}
use Rattle.world_model.specs.Parts.{phaser_past}
use Rattle.world_model.specs.Report.{below}
use Rattle.trace_model.specs.Explained.{past}
use Rattle.trace_model.specs.Run.{Entry}
use Rattle.trace_model.specs.declared.event.TracedEvent.{TracedEvent}
use Rattle.trace_model.specs.declared.event.TracedEvent.TheVariants.{Phaser}

-- it is an event of a phaser
abbrev pub is_phasers : TracedEvent → Bool
is_phasers (Phaser n s) = true
is_phasers _ = false

-- what the histories of all phasers add up to
abbrev pub all_totals : Limits → List WorldEvent → Amount
all_totals l w = sum (map (λ n. totals (phaser_past n w)) (below l.phasers))

-- the sums over all phasers of the history that the trace is; as many events as the trace has on phasers, and
-- what the report's line adds up to of the values sent
pub record AreTotals (l : Limits) (es : List Entry) (line : TotalsLine) (t : Totals) : Type 0 where
  pub sums : amount_of t ≡ all_totals l (past (reverse es))
  pub events : t.events ≡ count_by (λ e. is_phasers e.1) es
  pub up : t.up ≡ line.up
  pub down : t.down ≡ line.down
