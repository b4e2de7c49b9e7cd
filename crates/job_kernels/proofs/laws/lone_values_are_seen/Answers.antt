-- The law that a lone value is what is seen.
use Rattle.std.proofs.Common.{ap, refl}
use Rattle.std.proofs.Math.IntN.{+ℤ_idl}
use Rattle.phase_model.specs.declared.op.Look.TheVariants.{Value}
use Rattle.job_kernels.proofs.laws.lone_values_are_seen.Goals as goal

pub returns : goal.returns
returns c = λ v. (ap Value (+ℤ_idl v), refl, refl)
