-- The words of the worked examples: what a list of events leaves, and the lines of a report.
use Rattle.std.specs.Prelude.{ℕ, ◌≡◌, List, [], ◌∷◌, Some, None, Result, Ok, pos}
use Rattle.phase_modes.specs.declared.limits.Limits.{Limits}
use Rattle.phase_modes.specs.declared.reg.Mode.{Mode}
use Rattle.phase_modes.specs.declared.phased.Pair.{Pair}
use Rattle.phase_modes.specs.declared.refusal.Refusal.{Refusal}
use Rattle.phase_modes.specs.Limits.{default_limits}
use Rattle.phase_model.specs.declared.op.Op.{Op}
use Rattle.phase_model.specs.declared.terms.Terms.{Terms}
use Rattle.phase_model.specs.declared.op.Look.TheVariants.{Value as Saw}
use Rattle.world_model.specs.declared.report.FinishLine.{FinishLine}
use Rattle.world_model.specs.declared.report.FoldLine.{FoldLine}
use Rattle.world_model.specs.declared.reply.Reply.{Reply}
use Rattle.world_model.specs.declared.report.TaskLine.{TaskLine}
use Rattle.world_model.specs.declared.report.TotalsLine.{TotalsLine}
use Rattle.world_model.specs.declared.event.WorldEvent.{WorldEvent}
use Rattle.world_model.specs.declared.reply.Reply.TheVariants.{Done}
use Rattle.world_model.specs.Report.{Report, PhaserReport, report_of}
use Rattle.world_model.specs.Actors.{actor}
use Rattle.world_model.specs.Replies.{after, reply, replies}

-- the limits of a run that names none
abbrev pub limits : Limits
limits = default_limits

-- what a phaser without a bound is made with
abbrev pub unbounded : List Op → Terms
unbounded ops = record { ops = ops; bound = None }

-- the same, without accumulators
abbrev pub plain : Terms
plain = unbounded []

-- a pair of a spawn: on this phaser, in this mode
abbrev pub on : ℕ → Mode → Pair
on n m = record { phaser = n; mode = m }

-- the history that a list of events leaves, those aside that aren't made
abbrev pub played : Limits → List WorldEvent → List WorldEvent → List WorldEvent
played l w [] = w
played l w (e ∷ es) = played l (after w e (reply l w e)) es

-- by whom each event of a list is made
abbrev pub actors : Limits → List WorldEvent → List WorldEvent → List ℕ
actors l w [] = []
actors l w (e ∷ es) = actor w e ∷ actors l (after w e (reply l w e)) es

abbrev pub ok : Result Reply Refusal
ok = Ok Done

-- the lines of a report
abbrev pub phases_of : ℕ → ℕ → List FoldLine → PhaserReport
phases_of n k fs = record { phaser = n; phases = k; folds = fs }

-- what the one accumulator, a sum, folded in a phase
abbrev pub sum_is : ℕ → ℕ → FoldLine
sum_is p v = record { phase = p; acc = 0; value = Saw (pos v) }

abbrev pub ended : ℕ → TaskLine
ended t = record { task = t; refused = None }

abbrev pub refused_with : ℕ → ℕ → TaskLine
refused_with t n = record { task = t; refused = Some n }

abbrev pub tasks_in : ℕ → ℕ → FinishLine
tasks_in f n = record { finish = f; tasks = n }

abbrev pub in_all : ℕ → ℕ → ℕ → ℕ → ℕ → ℕ → ℕ → TotalsLine
in_all r s p d n u m =
    record { registered = r; signals = s; passes = p; drops = d; sends = n; up = u; down = m }

-- a run without phasers
abbrev pub no_phasers : List TaskLine → List FinishLine → Report
no_phasers ts fs = record { phasers = []; tasks = ts; finishes = fs; totals = in_all 0 0 0 0 0 0 0 }

-- handed these events in turn, a fresh world replies so, and is reported so at the end
abbrev pub Plays : Limits → List WorldEvent → List (Result Reply Refusal) → Report → Type 0
Plays l es rs r = (replies l [] es ≡ rs) × (report_of l (played l [] es) ≡ r)
