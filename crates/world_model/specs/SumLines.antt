-- What a phaser's story is reported as, and sums of totals.
use Rattle.std.specs.Prelude.{ℕ, ◌+◌, ◌*◌, ◌≤◌, flat_map}
use Rattle.phase_model.specs.Rules.{Story}
use Rattle.world_model.specs.declared.report.TotalsLine.{TotalsLine}
use Rattle.world_model.specs.Report.{PhaserReport, below, phase_count, folds_from}

-- a phaser with this number and story: how many phases it had, and what its accumulators folded, phase by
-- phase
abbrev pub lines_of : ℕ → Story → PhaserReport
lines_of n s = record {
  phaser = n;
  phases = phase_count s.past;
  folds = flat_map (λ p. folds_from p 0 s.terms.ops s.past) (below (phase_count s.past));
}

-- the totals of both
abbrev pub plus : TotalsLine → TotalsLine → TotalsLine
plus a b = record {
  registered = a.registered + b.registered;
  signals = a.signals + b.signals;
  passes = a.passes + b.passes;
  drops = a.drops + b.drops;
  sends = a.sends + b.sends;
  up = a.up + b.up;
  down = a.down + b.down;
}

-- they are of at most n events, each value with a magnitude of at most 2 ^ 31
pub record IsWithin (n : ℕ) (t : TotalsLine) : Type 0 where
  pub registered : t.registered ≤ n
  pub signals : t.signals ≤ n
  pub passes : t.passes ≤ n
  pub drops : t.drops ≤ n
  pub sends : t.sends ≤ n
  pub up : t.up ≤ 2147483648 * n
  pub down : t.down ≤ 2147483648 * n
