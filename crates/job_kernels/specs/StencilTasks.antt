-- The stencil as tasks: what each does next, and what it is after that.
use Rattle.std.specs.Prelude.{ℕ, zero, suc, pos, ◌+◌, ◌-◌, min, nat_lt, if◌then◌else◌, List, [], ◌∷◌, ◌++◌, length, map, replicate, slice_index, Option, None, Some}
use Rattle.phase_modes.specs.declared.reg.Mode.TheVariants.{SigWait, Wait}
use Rattle.phase_modes.specs.declared.phased.Pair.{Pair}
use Rattle.phase_model.specs.declared.op.Op.TheVariants.{Sum}
use Rattle.job_script.specs.declared.act.Act.{Act}
use Rattle.job_script.specs.declared.act.Act.TheVariants.{New, Async, Send, Look, Next, End}
use Rattle.job_script.specs.declared.act.Answer.{Answer}
use Rattle.job_kernels.specs.declared.stencil_body.Root.{Root}
use Rattle.job_kernels.specs.declared.stencil_body.Cell.{Cell}
use Rattle.job_kernels.specs.declared.stencil_body.Moment.{Moment}
use Rattle.job_kernels.specs.declared.stencil_body.Moment.TheVariants.{Sends, Turns, LooksLeft, LooksRight, Weighs}
use Rattle.job_kernels.specs.declared.stencil_body.Role as roles
use Rattle.job_kernels.specs.declared.stencil_body.Role.TheVariants as kinds
use Rattle.job_kernels.specs.declared.stencil_body.StencilBody.{StencilBody}
use Rattle.job_kernels.specs.declared.stencil_body.StencilCell.{StencilCell}
use Rattle.job_kernels.specs.Stencil.{weighed}
use Rattle.job_kernels.specs.Tasks.{value_of, pair_on, Does}

-- the most that a cell holds
abbrev pub greatest : ℕ
greatest = 1000000

-- ---- neighbours

-- the cell on the left of cell i, if there is one
abbrev pub left_of : ℕ → List ℕ
left_of zero = []
left_of (suc i) = i ∷ []

-- the cell on its right, if there is one
abbrev pub right_of : ℕ → ℕ → List ℕ
right_of cells i = if nat_lt (i + 1) cells then (i + 1) ∷ [] else []

-- both
abbrev pub neighbours : ℕ → ℕ → List ℕ
neighbours cells i = left_of i ++ right_of cells i

-- ---- the task of a cell

-- it sends its value
abbrev pub sends : Cell → Act StencilBody × Cell
sends c = (Send c.place 0 (pos (min c.value greatest)), record c { moment = Turns })

-- it ends its turn; if no step is left, it ends
abbrev pub turns : ℕ → Cell → Act StencilBody × Cell
turns zero c = (End, c)
turns (suc steps) c = (Next, record c { steps = steps; moment = LooksLeft })

-- it weighs its value with those on both sides, and sends it
abbrev pub weighs : ℕ → Cell → Act StencilBody × Cell
weighs right c = sends (record c { value = weighed c.left c.value right })

-- it looks at the cell on its right; if there is none, that counts as 0
abbrev pub looks_right : List ℕ → Cell → Act StencilBody × Cell
looks_right [] c = weighs 0 c
looks_right (right ∷ _) c = (Look right 0, record c { moment = Weighs })

-- it looks at the cell on its left; if there is none, that counts as 0
abbrev pub looks_left : List ℕ → Cell → Act StencilBody × Cell
looks_left [] c = looks_right (right_of c.cells c.place) (record c { left = 0 })
looks_left (left ∷ _) c = (Look left 0, record c { moment = LooksRight })

abbrev pub at_moment : Moment → Answer → Cell → Act StencilBody × Cell
at_moment Sends heard c = sends c
at_moment Turns heard c = turns c.steps c
at_moment LooksLeft heard c = looks_left (left_of c.place) c
at_moment LooksRight heard c =
    looks_right (right_of c.cells c.place) (record c { left = value_of greatest heard })
at_moment Weighs heard c = weighs (value_of greatest heard) c

-- what it does next, if it hears this, and what it is after that
abbrev pub cell_next : Answer → Cell → Act StencilBody × Cell
cell_next heard c = at_moment c.moment heard c

-- ---- the root

-- the task of cell i before its first act
abbrev pub cell_of : List ℕ → ℕ → ℕ → ℕ → Cell
cell_of first cells steps i = record {
  place = i;
  cells = cells;
  steps = steps;
  value = min (slice_index first i) greatest;
  left = 0;
  moment = Sends;
}

abbrev pub cell_task : List ℕ → ℕ → ℕ → ℕ → StencilBody
cell_task first cells steps i = record { role = kinds.Cell (cell_of first cells steps i) }

-- its phasers: its own, and those of its neighbours, on which it only waits
abbrev pub phasers_of : ℕ → ℕ → List Pair
phasers_of cells i = pair_on i SigWait ∷ map (λ j. pair_on j Wait) (neighbours cells i)

-- the root makes a phaser for each cell, then spawns the task of each, and ends
abbrev pub root_next : Root → Act StencilBody × Root
root_next r =
    if nat_lt r.made r.cells then (New SigWait (Sum ∷ []) None, record r { made = r.made + 1 })
    else if nat_lt r.spawned r.cells then (
      Async (cell_task r.first r.cells r.steps r.spawned) (phasers_of r.cells r.spawned),
      record r { spawned = r.spawned + 1 },
    )
    else (End, r)

abbrev pub root_task : List ℕ → ℕ → StencilBody
root_task first steps = record {
  role = kinds.Root (record {
    first = first ++ replicate (16 - length first) 0;
    cells = length first;
    steps = steps;
    made = 0;
    spawned = 0;
  });
}

-- the cell of a task, as it is by now; none of the root
abbrev pub cell_in : roles.Role → Option StencilCell
cell_in (kinds.Root r) = None
cell_in (kinds.Cell c) = Some (record { place = c.place; value = c.value })

abbrev pub cell_held : StencilBody → Option StencilCell
cell_held b = cell_in b.role

-- ---- both

abbrev pub role_next : Answer → roles.Role → Act StencilBody × roles.Role
role_next heard (kinds.Root r) = ((root_next r).0, kinds.Root (root_next r).1)
role_next heard (kinds.Cell c) = ((cell_next heard c).0, kinds.Cell (cell_next heard c).1)

-- what a task of the stencil does next, if it hears this, and what it is after that
abbrev pub stencil_next : Answer → StencilBody → Does StencilBody
stencil_next heard b = ((role_next heard b.role).0, record { role = (role_next heard b.role).1 })
