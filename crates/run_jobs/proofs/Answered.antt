-- Who asks whether a trace follows a program is refused as a run is.
use Rattle.std.proofs.Common.{ℕ, Option, Err, inl, inr, refl}
use Rattle.phase_modes.specs.declared.refusal.Refusal.{Refusal}
use Rattle.phase_modes.specs.declared.refusal.Refusal.TheVariants.{Memory, NotExplained}
use Rattle.trace_walk.specs.Walking.{AnswersPlace}
use Rattle.tasks_in_flight.specs.Refused.{IsRunRefused}

pub refused_so : (o : Option ℕ) (e : Refusal) → AnswersPlace o (Err e) → IsRunRefused e
refused_so o Memory is = inl refl
refused_so o (NotExplained k) is = inr (k, refl)
refused_so o e is = absurd is
