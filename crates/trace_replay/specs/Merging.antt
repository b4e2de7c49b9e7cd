-- The merging of parts: all their events by rising ticket, and where these are first at fault.
use Rattle.std.specs.Prelude.{◌≡◌, ◌⊎◌, ℕ, ◌+◌, Bool, ◌||◌, ◌==◌, nat_lt, if◌then◌else◌, List, [], ◌∷◌, map, flat_map, Option, Some, None, Result, Ok, Err}
use Rattle.std.specs.List.Sorted.{IsPermutation, IsNonDecreasingBy, IsStableByKey}
use Rattle.std.specs.Ordering.{nat_cmp}
use Rattle.phase_modes.specs.declared.limits.Limits.{Limits}
use Rattle.phase_modes.specs.declared.refusal.Refusal.{Refusal}
use Rattle.phase_modes.specs.declared.refusal.Refusal.TheVariants.{Memory, NotExplained}
use Rattle.trace_model.specs.Run.{Entry, Run}
use Rattle.trace_replay.specs.declared.merging.Mark.{Mark}

-- the greater of two tickets
abbrev pub later_of : ℕ → ℕ → ℕ
later_of most ticket = if nat_lt ticket most then most else ticket

-- the events of a part, each with whether it stands after one with a greater ticket; the greatest of those before is known
abbrev pub marked_after : ℕ → List Entry → List Mark
marked_after most [] = []
marked_after most (e ∷ es) =
    record { ticket = e.0; event = e.1; late = nat_lt e.0 most } ∷ marked_after (later_of most e.0) es

-- those of all parts
abbrev pub all_marked : List (List Entry) → List Mark
all_marked parts = flat_map (marked_after 0) parts

-- the same by rising ticket, those of one ticket in the order of the parts
pub record IsMerged (parts : List (List Entry)) (ms : List Mark) : Type 0 where
  pub as_often : IsPermutation (all_marked parts) ms
  pub rising : IsNonDecreasingBy (λ m. m.ticket) ms
  pub ties : IsStableByKey (λ (m : Mark). m.ticket) nat_cmp (all_marked parts) ms

-- the event has the ticket of the one before, or stands in its part after one with a greater ticket
abbrev pub is_fault : Option ℕ → Mark → Bool
is_fault None m = m.late
is_fault (Some ticket) m = ticket == m.ticket || m.late

-- the place of the first that is at fault, the first of them being at this place, after this ticket
abbrev pub fault_from : Option ℕ → ℕ → List Mark → Option ℕ
fault_from last place [] = None
fault_from last place (m ∷ ms) =
    if is_fault last m then Some place else fault_from (Some m.ticket) (place + 1) ms

-- the same, counted from 1
abbrev pub merge_fault : List Mark → Option ℕ
merge_fault ms = fault_from None 1 ms

-- the event with its ticket
abbrev pub entry_of : Mark → Entry
entry_of m = (m.ticket, m.event)

-- the trace with these limits and events, if none is at fault, else the place of the first; or memory ran out
abbrev pub Traces : Limits → List Mark → Result Run Refusal → Type 0
Traces l ms (Ok r) = (merge_fault ms ≡ None) × (r ≡ record { limits = l; events = map entry_of ms })
Traces l ms (Err Memory) = Unit {0}
Traces l ms (Err (NotExplained p)) = merge_fault ms ≡ Some p
Traces l ms (Err _) = ⊥

-- what merging says: it traces the events of all parts by rising ticket, or memory ran out
abbrev pub Merges : Limits → List (List Entry) → Result Run Refusal → Type 0
Merges l parts r = (r ≡ Err Memory) ⊎ ((ms : List Mark) × IsMerged parts ms × Traces l ms r)
