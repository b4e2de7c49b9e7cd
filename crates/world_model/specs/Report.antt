-- What a world is reported as, read off the histories of its phasers and finishes.
use Rattle.std.specs.Prelude.{ℕ, ◌+◌, Bool, true, false, ◌==◌, if◌then◌else◌, max, List, [], ◌∷◌, length, map, filter, flat_map, sum_by, count_by, Option, Some, None, is_some}
use Rattle.std.specs.List.{range_with_len}
use Rattle.phase_modes.specs.declared.limits.Limits.{Limits}
use Rattle.phase_model.specs.declared.history.Event.{Event}
use Rattle.phase_model.specs.declared.op.Op.{Op}
use Rattle.phase_model.specs.Values.{sent, fold}
use Rattle.phase_model.specs.Tasks.{registered_by}
use Rattle.phase_model.specs.Phases.{waits, signals}
use Rattle.phase_model.specs.Amounts.{totals}
use Rattle.phase_model.specs.declared.history.Event.TheVariants.{Sig, Pass, Send, Drop}
use Rattle.finish_core.specs.Finish.{spawned_tasks}
use Rattle.world_model.specs.declared.report.FinishLine.{FinishLine}
use Rattle.world_model.specs.declared.report.FoldLine.{FoldLine}
use Rattle.world_model.specs.declared.report.TaskLine.{TaskLine}
use Rattle.world_model.specs.declared.report.TotalsLine.{TotalsLine}
use Rattle.world_model.specs.declared.event.WorldEvent.{WorldEvent}
use Rattle.world_model.specs.declared.event.WorldEvent.TheVariants.{Refuse, Fail}
use Rattle.world_model.specs.Parts.{phaser_past, finish_past, ops_of}
use Rattle.world_model.specs.Tasks.{is_born}
use Rattle.world_model.specs.Numbers.{is_phaser, is_finish}

-- the numbers below n, in order
abbrev pub below : ℕ → List ℕ
below n = range_with_len 0 n

-- the least number such that no signal, no pass and no value of this history is of that phase or a later one
abbrev pub phase_count : List Event → ℕ
phase_count [] = 0
phase_count (Sig t x ∷ h) = max (signals t h + 1) (phase_count h)
phase_count (Pass t ∷ h) = max (waits t h + 1) (phase_count h)
phase_count (Send t a v ∷ h) = max (signals t h + 1) (phase_count h)
phase_count (_ ∷ h) = phase_count h

-- what the accumulators from a on folded in phase p
abbrev pub folds_from : ℕ → ℕ → List Op → List Event → List FoldLine
folds_from p a [] h = []
folds_from p a (op ∷ ops) h =
    record { phase = p; acc = a; value = fold op (sent a p h) } ∷ folds_from p (a + 1) ops h

-- a phaser, how many phases it had, and what its accumulators folded, phase by phase
pub record PhaserReport : Type 0 where
  pub phaser : ℕ
  pub phases : ℕ
  pub folds : List FoldLine

abbrev pub phaser_lines : List WorldEvent → ℕ → PhaserReport
phaser_lines w n =
    let h = phaser_past n w in
    record {
      phaser = n;
      phases = phase_count h;
      folds = flat_map (λ p. folds_from p 0 (ops_of n w) h) (below (phase_count h));
    }

-- the number by which t was refused, or failed
abbrev pub refused_by : ℕ → List WorldEvent → Option ℕ
refused_by t [] = None
refused_by t (Refuse u a n ∷ w) = if u == t then Some n else refused_by t w
refused_by t (Fail u n ∷ w) = if u == t then Some n else refused_by t w
refused_by t (_ ∷ w) = refused_by t w

abbrev pub task_line : List WorldEvent → ℕ → TaskLine
task_line w t = record { task = t; refused = refused_by t w }

abbrev pub finish_line : List WorldEvent → ℕ → FinishLine
finish_line w f = record { finish = f; tasks = length (spawned_tasks (finish_past f w)) }

-- the kinds of event that are counted, registrations aside
abbrev pub is_sig : Event → Bool
is_sig (Sig t x) = true
is_sig _ = false

abbrev pub is_pass : Event → Bool
is_pass (Pass t) = true
is_pass _ = false

abbrev pub is_drop : Event → Bool
is_drop (Drop t) = true
is_drop _ = false

abbrev pub is_send : Event → Bool
is_send (Send t a v) = true
is_send _ = false

-- the sums over all phasers
abbrev pub totals_line : List (List Event) → TotalsLine
totals_line hs = record {
  registered = sum_by (count_by (λ e. is_some (registered_by e))) hs;
  signals = sum_by (count_by is_sig) hs;
  passes = sum_by (count_by is_pass) hs;
  drops = sum_by (count_by is_drop) hs;
  sends = sum_by (count_by is_send) hs;
  up = sum_by (λ h. (totals h).up) hs;
  down = sum_by (λ h. (totals h).down) hs;
}

pub record Report : Type 0 where
  pub phasers : List PhaserReport
  pub tasks : List TaskLine
  pub finishes : List FinishLine
  pub totals : TotalsLine

-- the report: the phasers that were made, the root and the tasks that were spawned, and the finishes that
-- were opened, each by rising number
abbrev pub report_of : Limits → List WorldEvent → Report
report_of l w =
    let made = filter (λ n. is_phaser n w) (below l.phasers) in
    record {
      phasers = map (phaser_lines w) made;
      tasks = map (task_line w) (filter (λ t. is_born t w) (below l.tasks));
      finishes = map (finish_line w) (filter (λ f. is_finish f w) (below l.finishes));
      totals = totals_line (map (λ n. phaser_past n w) made);
    }
