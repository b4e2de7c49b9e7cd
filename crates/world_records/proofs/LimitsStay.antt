-- No step changes the limits: whatever it is answered, the state after it has those of the state before.
use Rattle.std.proofs.Common.{◌≡◌, ℕ, Bool, true, false, Option, Some, None, Result, Ok, Err, refl, ℤ}
use Rattle.phase_modes.specs.declared.refusal.Refusal.{Refusal}
use Rattle.phase_model.specs.declared.op.Look.{Look as Seen}
use Rattle.phase_model.specs.declared.answer.Passing.{Passing}
use Rattle.phase_model.specs.declared.answer.Passing.TheVariants.{Passed, Claimed as Claims, NotYet as Waits}
use Rattle.world_model.specs.declared.event.Begun.{Begun}
use Rattle.world_model.specs.declared.event.Begun.TheVariants.{Async, Signal, Wait, Next, NextSingle, Shut, End}
use Rattle.world_records.specs.WorldState.{WorldState}
use Rattle.world_records.specs.inner.Begins.{entered}
use Rattle.world_records.specs.inner.Refusals.{where_noted}
use Rattle.world_records.specs.inner.Sends.{state_by_look}
use Rattle.world_records.specs.inner.Steps.{state_by, state_by_pass, unless_refused}

pub limits_by : (u : Result (Unit {0}) Refusal) (s new : WorldState) → new.limits ≡ s.limits → (state_by u s new).limits ≡ s.limits
limits_by (Ok u) s new e = e
limits_by (Err r) s new e = refl

pub limits_by_look : (u : Result (Seen ℤ) Refusal) (s new : WorldState) → new.limits ≡ s.limits → (state_by_look u s new).limits ≡ s.limits
limits_by_look (Ok x) s new e = e
limits_by_look (Err r) s new e = refl

pub limits_by_pass : (u : Result (Passing ℕ) Refusal) (s called noted : WorldState)
    → called.limits ≡ s.limits → noted.limits ≡ s.limits → (state_by_pass u s called noted).limits ≡ s.limits
limits_by_pass (Ok (Passed p)) s called noted c n = n
limits_by_pass (Ok (Claims i)) s called noted c n = c
limits_by_pass (Ok Waits) s called noted c n = refl
limits_by_pass (Err r) s called noted c n = refl

pub limits_unless : (o : Option Refusal) (s new : WorldState) → new.limits ≡ s.limits → (unless_refused o s new).limits ≡ s.limits
limits_unless None s new e = e
limits_unless (Some r) s new e = refl

pub limits_where : (b : Bool) (s new : WorldState) → new.limits ≡ s.limits → (where_noted b s new).limits ≡ s.limits
limits_where true s new e = e
limits_where false s new e = refl

-- an act that is begun changes lines of tasks alone
pub entered_limits : (s : WorldState) (t : ℕ) (b : Begun) → (entered s t b).limits ≡ s.limits
entered_limits s t (Async c pairs) = refl
entered_limits s t Signal = refl
entered_limits s t Wait = refl
entered_limits s t Next = refl
entered_limits s t (NextSingle x) = refl
entered_limits s t Shut = refl
entered_limits s t End = refl
