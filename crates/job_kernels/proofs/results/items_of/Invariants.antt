use Rattle.std.proofs.Common.{◌≡◌, take, flat_map}
use Rattle.job_kernels.specs.Results.{values_of}
use Rattle.job_kernels.proofs.results.items_of.Given as goal

abbrev pub invariant-loop-phaser : goal.invariant-loop-phaser
invariant-loop-phaser l = l.values.items ≡ flat_map (values_of l.fn.stages) (take l.phaser-index l.phaser-items)
