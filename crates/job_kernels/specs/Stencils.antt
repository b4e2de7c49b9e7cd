-- What a run of the stencil gives, in whatever order its tasks go on.
use Rattle.std.specs.Prelude.{ℕ, ℤ, pos, ◌+◌, ◌≡◌, ◌<◌, ◌≤◌, List, ◌∷◌, ◌++◌, length, map}
use Rattle.phase_modes.specs.declared.limits.Limits.{Limits}
use Rattle.phase_model.specs.declared.op.Look.TheVariants.{Value}
use Rattle.phase_model.specs.Phases.{signals, waits}
use Rattle.job_script.specs.declared.act.Answer.TheVariants.{Saw}
use Rattle.world_model.specs.declared.event.Step.TheVariants.{Send, Look}
use Rattle.world_model.specs.declared.event.WorldEvent.{WorldEvent}
use Rattle.world_model.specs.declared.event.WorldEvent.TheVariants.{Phaser}
use Rattle.world_model.specs.Parts.{phaser_past}
use Rattle.world_model.specs.Report.{report_of}
use Rattle.job_kernels.specs.Results.{cells_of}
use Rattle.job_kernels.specs.Stencil.{AtMost, stencil}
use Rattle.job_kernels.specs.StencilLines.{cells_at}
use Rattle.job_kernels.specs.StencilTasks.{greatest, root_task, stencil_next}
use Rattle.trace_walk.specs.Going.{heard}
use Rattle.trace_walk.specs.Whole.{IsSmooth, IsWhole}

-- a law of each history, whole or not, in which the tasks of this stencil go on and none is refused
abbrev pub OfEachStencil : ((first : List ℕ) → (steps : ℕ) → List WorldEvent → Type 0) → Type 0
OfEachStencil P = (l : Limits) (first : List ℕ) (steps : ℕ) (w : List WorldEvent)
    → length first ≤ 16 → AtMost greatest first
    → IsSmooth stencil_next (root_task first steps) l w → P first steps w

-- each value that is sent goes to the phaser of a cell, by accumulator 0, and is that cell after as many steps as
-- its sender has signalled there
abbrev pub ValuesAreCells : Type 0
ValuesAreCells = OfEachStencil (λ first steps w.
    (later before : List WorldEvent) (n t a : ℕ) (v : ℤ) → w ≡ later ++ Phaser n (Send t a v) ∷ before
    → (n < length first) × (a ≡ 0) × (v ≡ cells_at first (signals t (phaser_past n before)) n))

-- a look at the phaser of a cell sees that cell as it was after the steps before
abbrev pub LooksSeeCells : Type 0
LooksSeeCells = OfEachStencil (λ first steps w.
    (later before : List WorldEvent) (n t a p : ℕ) → w ≡ later ++ Phaser n (Look t a) ∷ before
    → waits t (phaser_past n before) ≡ p + 1
    → heard before (Phaser n (Look t a)) ≡ Saw (Value (cells_at first p n)))

-- a whole run gives the cells of the stencil
abbrev pub RunsComeToStencil : Type 0
RunsComeToStencil = (l : Limits) (first : List ℕ) (steps : ℕ) (w : List WorldEvent)
    → length first ≤ 16 → AtMost greatest first
    → IsWhole stencil_next (root_task first steps) l w
    → cells_of steps (report_of l w) ≡ map pos (stencil steps first)
