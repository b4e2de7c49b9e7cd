-- Which events of a trace were handed to a world so far, one after the other.
use Rattle.std.specs.Prelude.{◌≡◌, ℕ, Bool, true, nat_lt, List, [], ◌∷◌, reverse, take, drop, Option, Some, None, Result, Ok, Err}
use Rattle.phase_modes.specs.declared.limits.Limits.{Limits}
use Rattle.phase_modes.specs.declared.refusal.Refusal.{Refusal}
use Rattle.world_records.specs.WorldState.{WorldState}
use Rattle.world_records.specs.StandsFor.{StandsFor}
use Rattle.trace_model.specs.Run.{Entry, Run}
use Rattle.trace_model.specs.Explained.{past, is_over, fault_after, first_fault}
use Rattle.trace_replay.specs.declared.player.Player.{Player}
use Rattle.trace_replay.specs.Replaying.{IsRefused}

-- the ticket of the newest of these
abbrev pub newest : List Entry → Option ℕ
newest [] = None
newest (e ∷ es) = Some e.0

-- the ticket is greater than this one, if there is one
abbrev pub is_later_than : ℕ → Option ℕ → Bool
is_later_than ticket None = true
is_later_than ticket (Some last) = nat_lt last ticket

-- these entries, the newest first, were handed to a world with these limits
pub record HandedOver (l : Limits) (es : List Entry) (s : Player) : Type 0 where
  pub limits : s.world.limits ≡ l
  pub stands : StandsFor (past es) s.world
  pub last : s.last ≡ newest es
  pub over : s.over ≡ is_over es

-- the first i entries may follow one another and were handed over, so that the first fault is among the others or at the end
pub record HandedUpTo (l : Limits) (es : List Entry) (i : ℕ) (s : Player) : Type 0 where
  pub handed : HandedOver l (reverse (take i es)) s
  pub fault : fault_after l [] es ≡ fault_after l (reverse (take i es)) (drop i es)

-- all entries may follow one another and were handed over, so that a fault can only be that the run has no end; or the first that may not stands at this place
abbrev pub HandsOver : Limits → List Entry → Option ℕ → Player → Type 0
HandsOver l es None s = HandedOver l (reverse es) s × (fault_after l [] es ≡ fault_after l (reverse es) [])
HandsOver l es (Some p) s = fault_after l [] es ≡ Some p

-- the trace has no fault, and its events lead to this world; or the replay is refused
abbrev pub Plays : Run → Result WorldState Refusal → Type 0
Plays r (Ok s) = (first_fault r ≡ None) × (s.limits ≡ r.limits) × StandsFor (past (reverse r.events)) s
Plays r (Err e) = IsRefused r e
