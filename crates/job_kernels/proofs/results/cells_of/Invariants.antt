use Rattle.std.proofs.Common.{◌≡◌, take, flat_map}
use Rattle.job_kernels.specs.Results.{cell_of}
use Rattle.job_kernels.proofs.results.cells_of.Given as goal

abbrev pub invariant-loop-phaser : goal.invariant-loop-phaser
invariant-loop-phaser l = l.values.items ≡ flat_map (cell_of l.fn.steps) (take l.phaser-index l.phaser-items)
