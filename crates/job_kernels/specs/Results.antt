-- What a kernel's run gives, as its report says.
use Rattle.std.specs.Prelude.{ℕ, ℤ, ◌==◌, if◌then◌else◌, List, [], ◌∷◌, flat_map, Option, is_some, option_and_then}
use Rattle.std.specs.List.{find}
use Rattle.phase_modes.specs.declared.refusal.Refusal.{Refusal}
use Rattle.phase_modes.specs.RefusalNumbers.{refusal_with}
use Rattle.phase_model.specs.declared.op.Look.{Look}
use Rattle.phase_model.specs.declared.op.Look.TheVariants.{Value, Nothing}
use Rattle.world_model.specs.declared.report.FoldLine.{FoldLine}
use Rattle.world_model.specs.declared.report.TaskLine.{TaskLine}
use Rattle.world_model.specs.Report.{PhaserReport, Report}

-- what was seen, if it is a value
abbrev pub value_seen : Look ℤ → List ℤ
value_seen (Value v) = v ∷ []
value_seen Nothing = []

-- the value of an accumulator in a phase, if it is of this phase
abbrev pub value_in : ℕ → FoldLine → List ℤ
value_in phase f = if f.phase == phase then value_seen f.value else []

-- the values of a phaser in this phase
abbrev pub cell_of : ℕ → PhaserReport → List ℤ
cell_of phase p = flat_map (value_in phase) p.folds

-- the cells: what each phaser folded in the phase after the last step, phaser by phaser
abbrev pub cells_of : ℕ → Report → List ℤ
cells_of steps r = flat_map (cell_of steps) r.phasers

-- the values of a phaser, phase by phase, if it is this one
abbrev pub values_of : ℕ → PhaserReport → List ℤ
values_of phaser p = if p.phaser == phaser then flat_map (λ f. value_seen f.value) p.folds else []

-- the items: the values of the phaser behind the last stage, phase by phase
abbrev pub items_of : ℕ → Report → List ℤ
items_of stages r = flat_map (values_of stages) r.phasers

-- the line of the lowest task that was refused, if one was: the tasks of a report stand by rising number
abbrev pub lowest_refused : Report → Option TaskLine
lowest_refused r = find (λ l. is_some l.refused) r.tasks

-- by which refusal
abbrev pub refusal_of : Report → Option Refusal
refusal_of r = option_and_then (λ l. option_and_then refusal_with l.refused) (lowest_refused r)
