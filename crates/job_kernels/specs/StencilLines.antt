-- What the tasks of a stencil go by: the laws that tie them to the stencil.
use Rattle.std.specs.Prelude.{ℕ, ℤ, suc, pos, ◌≡◌, ◌+◌, ◌≤◌, ◌<◌, List, [], ◌∷◌, ◌++◌, length, map, flat_map, slice_index, None}
use Rattle.std.specs.List.{range_with_len}
use Rattle.phase_modes.specs.declared.reg.Mode.TheVariants.{SigWait}
use Rattle.phase_model.specs.declared.op.Look.TheVariants.{Value}
use Rattle.phase_model.specs.declared.op.Op.TheVariants.{Sum}
use Rattle.job_script.specs.declared.act.Act.TheVariants.{New, Async, Send, Look, Next}
use Rattle.job_script.specs.declared.act.Answer.TheVariants.{Started, Done, Made, Spawned, Saw}
use Rattle.job_kernels.specs.declared.stencil_body.StencilBody.{StencilBody}
use Rattle.job_kernels.specs.Stencil.{stencil, AtMost}
use Rattle.job_kernels.specs.Tasks.{Line, GoesBy}
use Rattle.job_kernels.specs.StencilTasks.{greatest, neighbours, cell_task, phasers_of, root_task, stencil_next}

-- ---- the tasks of the cells, of which that of cell i sends `sent t i` for phase t

-- it sends its value of a phase
abbrev pub sending : (ℕ → ℕ → ℤ) → ℕ → ℕ → Line StencilBody
sending sent t i = (Send i 0 (sent t i), Done)

-- it looks at cell j, and sees what was sent there for the phase
abbrev pub looking : (ℕ → ℕ → ℤ) → ℕ → ℕ → Line StencilBody
looking sent t j = (Look j 0, Saw (Value (sent t j)))

-- a step: it ends its turn, looks at its neighbours in the phase that has ended, and sends its value of
-- the next
abbrev pub step_lines : (ℕ → ℕ → ℤ) → ℕ → ℕ → ℕ → List (Line StencilBody)
step_lines sent cells i t =
    (Next, Done) ∷ map (looking sent t) (neighbours cells i) ++ sending sent (suc t) i ∷ []

-- its value of phase 0, and then the steps
abbrev pub cell_lines : (ℕ → ℕ → ℤ) → ℕ → ℕ → ℕ → List (Line StencilBody)
cell_lines sent cells steps i =
    sending sent 0 i ∷ flat_map (step_lines sent cells i) (range_with_len 0 steps)

-- the task of cell i goes by that
abbrev pub CellGoesBy : (ℕ → ℕ → ℤ) → List ℕ → ℕ → ℕ → Type 0
CellGoesBy sent first steps i =
    GoesBy stencil_next (stencil_next Started (cell_task first (length first) steps i))
    (cell_lines sent (length first) steps i)

-- the cells of the stencil
abbrev pub cells_at : List ℕ → ℕ → ℕ → ℤ
cells_at first t i = pos (slice_index (stencil t first) i)

-- a law: as long as the task of a cell sees of its neighbours the cells of the stencil, it sends those of
-- its own
abbrev pub CellsGoByStencil : Type 0
CellsGoByStencil = (first : List ℕ) (steps i : ℕ) → AtMost greatest first → i < length first →
    CellGoesBy (cells_at first) first steps i

-- a law: whatever the tasks send, if each sees of its neighbours what they sent for the phase that has
-- ended, they send the cells of the stencil
abbrev pub CellsSendStencil : Type 0
CellsSendStencil = (first : List ℕ) (steps : ℕ) (sent : ℕ → ℕ → ℤ) → AtMost greatest first →
    ((i : ℕ) → i < length first → CellGoesBy sent first steps i) →
    (t i : ℕ) → t ≤ steps → i < length first → sent t i ≡ cells_at first t i

-- ---- the root

-- the phaser of cell j is made, and the task of cell i spawned
abbrev pub making : ℕ → Line StencilBody
making j = (New SigWait (Sum ∷ []) None, Made j)

abbrev pub spawning : List ℕ → ℕ → ℕ → Line StencilBody
spawning first steps i =
    (Async (cell_task first (length first) steps i) (phasers_of (length first) i), Spawned (i + 1))

-- a law: the root makes a phaser for each cell, then spawns the task of each
abbrev pub RootSpawnsCells : Type 0
RootSpawnsCells = (first : List ℕ) (steps : ℕ) → length first ≤ 16 →
    GoesBy stencil_next (stencil_next Started (root_task first steps))
    (map making (range_with_len 0 (length first))
    ++ map (spawning first steps) (range_with_len 0 (length first)))
