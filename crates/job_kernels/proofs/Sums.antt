-- What the stages of a pipeline add up to.
use Rattle.std.proofs.Common.{ℕ, ◌+◌, ◌*◌, ◌/◌, ◌≡◌, zero, suc, arith}
use Rattle.job_kernels.specs.Pipeline.{pipeline_item}

pub adds_triangle : (stages i : ℕ) → pipeline_item stages i ≡ i + stages * (stages + 1) / 2
adds_triangle zero i = omega arith
adds_triangle (suc stages) i = omega (arith, adds_triangle stages i)
