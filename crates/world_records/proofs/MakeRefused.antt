-- What a result says of the first refusal that it comes from.
use Rattle.std.proofs.Common.{◌≡◌, Option, Some, None, Result, refl, sym, subst}
use Rattle.std.specs.Prelude.{IfErr}
use Rattle.phase_modes.specs.declared.refusal.Refusal.{Refusal}
use Rattle.world_model.specs.ActConditions.{free_unless}

refused_some : (o : Option Refusal) → IfErr (free_unless o) (λ r. o ≡ Some r)
refused_some None = tt
refused_some (Some r) = refl

pub refused_is : (u : Result (Unit {0}) Refusal) (o : Option Refusal) → u ≡ free_unless o → IfErr u (λ r. o ≡ Some r)
refused_is u o e = subst (λ v. IfErr v (λ r. o ≡ Some r)) (sym e) (refused_some o)
