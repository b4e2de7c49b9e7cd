use Rattle.std.proofs.Common.{◌≡◌}
use Rattle.job_kernels.specs.Stencil.{stencil}
use Rattle.job_kernels.proofs.stencil.stencil_plain.Given as goal

abbrev pub invariant-loop-step : goal.invariant-loop-step
invariant-loop-step l = l.row.items ≡ stencil l._step l.fn.first
