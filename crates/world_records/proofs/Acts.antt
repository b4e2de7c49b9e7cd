-- What an act that is refused, and one that is not, comes to.
use Rattle.std.proofs.Common.{◌≡◌, Option, Some, None, Ok, Err, refl, ap}
use Rattle.phase_modes.specs.declared.refusal.Refusal.{Refusal}
use Rattle.world_model.specs.declared.reply.Reply.TheVariants.{Done}
use Rattle.world_records.specs.WorldState.{WorldState}
use Rattle.world_model.specs.ActConditions.{free_unless}
use Rattle.world_records.specs.inner.Steps.{done_unless, done_by, unless_refused}

pub refused_state : (o : Option Refusal) (r : Refusal) (old new : WorldState) → Err r ≡ free_unless o → old ≡ unless_refused o old new
refused_state None r old new e = absurd cc
refused_state (Some x) r old new e = refl

pub refused_answer : (o : Option Refusal) (r : Refusal) → Err r ≡ free_unless o → Err r ≡ done_unless o
refused_answer None r e = absurd cc
refused_answer (Some x) r e = ap (λ u. done_by u) e

pub free_state : (o : Option Refusal) (old new : WorldState) → Ok tt ≡ free_unless o → new ≡ unless_refused o old new
free_state None old new e = refl
free_state (Some x) old new e = absurd cc

pub free_answer : (o : Option Refusal) → Ok tt ≡ free_unless o → Ok Done ≡ done_unless o
free_answer None e = refl
free_answer (Some x) e = absurd cc
