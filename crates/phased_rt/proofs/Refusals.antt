-- Why merging and replaying are refused.
use Rattle.std.proofs.Common.{List, Err, inl, inr, refl}
use Rattle.phase_modes.specs.declared.limits.Limits.{Limits}
use Rattle.phase_modes.specs.declared.refusal.Refusal.{Refusal}
use Rattle.phase_modes.specs.declared.refusal.Refusal.TheVariants.{Memory, NotExplained}
use Rattle.trace_model.specs.Run.{Entry, Run}
use Rattle.trace_replay.specs.Merging.{Merges}
use Rattle.trace_replay.specs.Replaying.{IsRefused, Replays}
use Rattle.tasks_in_flight.specs.Refused.{IsRunRefused}

pub merge_refused : (l : Limits) (parts : List (List Entry)) (e : Refusal) → Merges l parts (Err e) → IsRunRefused e
merge_refused l parts Memory is = inl refl
merge_refused l parts (NotExplained p) is = inr (p, refl)
merge_refused l parts e (inl is) = absurd (cc)
merge_refused l parts e (inr is) = absurd is.2

is_refused : (r : Run) (e : Refusal) → IsRefused r e → IsRunRefused e
is_refused r Memory is = inl refl
is_refused r (NotExplained p) is = inr (p, refl)
is_refused r e is = absurd is

pub replay_refused : (r : Run) (e : Refusal) → Replays r (Err e) → IsRunRefused e
replay_refused r e is = is_refused r e is
