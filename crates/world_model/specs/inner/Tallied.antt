-- What a phaser's events add up to, with one event more, and which history that stands for.
use Rattle.std.specs.Prelude.{ℕ, ◌≡◌, ◌+◌, ◌<◌, Bool, true, ◌&&◌, nat_lt, List, [], ◌∷◌, length, get_or, set, replicate, flat_map, All, Option, Some, None}
use Rattle.phase_model.specs.declared.history.Event.{Event}
use Rattle.phase_model.specs.declared.history.Event.TheVariants.{Make, Reg, Sig, Pass, Send}
use Rattle.phase_model.specs.declared.op.Op.{Op}
use Rattle.phase_model.specs.Phases.{signals, waits}
use Rattle.world_model.specs.declared.report.TotalsLine.{TotalsLine}
use Rattle.world_model.specs.Report.{below, phase_count, folds_from, totals_line}
use Rattle.world_model.specs.declared.progress.Progress.{Progress}
use Rattle.world_model.specs.inner.Folds as folds
use Rattle.world_model.specs.inner.Totals.{totals_with}
use Rattle.world_model.specs.SumLines.{IsWithin}

-- where a phaser's maker begins
abbrev pub start : Progress
start = record { signals = 0; waits = 0 }

abbrev pub progress_at : List Progress → ℕ → Progress
progress_at ts t = get_or ts t start

-- the tasks whose progress the event reads or changes are among the first n
abbrev pub fits : ℕ → Event → Bool
fits n (Make t m) = nat_lt t n
fits n (Reg q t m) = nat_lt q n && nat_lt t n
fits n (Sig t x) = nat_lt t n
fits n (Pass t) = nat_lt t n
fits n (Send t a v) = nat_lt t n
fits n _ = true

-- the phase of a signal, a pass or a value
abbrev pub phase_at : List Progress → Event → Option ℕ
phase_at ts (Sig t x) = Some (progress_at ts t).signals
phase_at ts (Pass t) = Some (progress_at ts t).waits
phase_at ts (Send t a v) = Some (progress_at ts t).signals
phase_at ts _ = None

-- how far each task has come, with one event more
abbrev pub progress_noted : Event → List Progress → List Progress
progress_noted (Make t m) ts = set ts t start
progress_noted (Reg q t m) ts = set ts t (progress_at ts q)
progress_noted (Sig t x) ts =
    set ts t (record (progress_at ts t) { signals = (progress_at ts t).signals + 1 })
progress_noted (Pass t) ts = set ts t (record (progress_at ts t) { waits = (progress_at ts t).waits + 1 })
progress_noted _ ts = ts

-- how far each task has come, by number, what the accumulators folded, and the totals
pub record Tallied : Type 0 where
  pub tasks : List Progress
  pub folds : folds.FoldState
  pub totals : TotalsLine

abbrev pub no_events : ℕ → List Op → Tallied
no_events n ops = record {
  tasks = replicate n start;
  folds = record { ops = ops; phases = 0; lines = [] };
  totals = totals_line [];
}

-- one event more
abbrev pub noted : Event → Tallied → Tallied
noted e k = record {
  tasks = progress_noted e k.tasks;
  folds = folds.folds_noted e (phase_at k.tasks e) k.folds;
  totals = totals_with e k.totals;
}

-- an event can be taken in
pub record IsNotable (k : Tallied) (e : Event) : Type 0 where
  pub known : fits (length k.tasks) e ≡ true
  pub signals : All (λ p. p.signals < 65536) k.tasks
  pub waits : All (λ p. p.waits < 65536) k.tasks
  pub folds : folds.IsNotable k.folds e (phase_at k.tasks e)
  pub totals : IsWithin 65536 k.totals

-- what was read off a history is what the report's definitions say of it
pub record StandsFor (k : Tallied) (h : List Event) : Type 0 where
  pub tasks : (t : ℕ) → t < length k.tasks
      → progress_at k.tasks t ≡ record { signals = signals t h; waits = waits t h }
  pub phases : k.folds.phases ≡ phase_count h
  pub lines : k.folds.lines ≡ flat_map (λ p. folds_from p 0 k.folds.ops h) (below (phase_count h))
  pub totals : k.totals ≡ totals_line (h ∷ [])
  pub within : IsWithin (length h) k.totals
