-- What a judge has accepted, and what it tells and counts of it.
use Rattle.std.specs.Prelude.{ℕ, ◌≡◌, ◌+◌, max, Bool, List, [], ◌∷◌, Option, is_some, length, min}
use Rattle.std.specs.Option.{option_map_or}
use Rattle.std.specs.Ordering.{nat_cmp, eq_by_cmp}
use Rattle.std.specs.List.{list_any}
use Rattle.std.specs.List.Sorted.{IsStrictlySortedBy}
use Rattle.phase_model.specs.declared.history.Event.{Event}
use Rattle.phase_model.specs.Registration.{registration}
use Rattle.phaser_judge.specs.declared.event.Named.{Named}
use Rattle.phaser_judge.specs.declared.event.Named.TheVariants as named
use Rattle.phaser_judge.specs.declared.event.NamedEvent.{NamedEvent}
use Rattle.phaser_judge.specs.Standings.{Standing}
use Rattle.phaser_judge.specs.declared.totals.Totals.{Totals}

-- the events that a judge has accepted, the newest first, and whether it has refused one since
pub record Course : Type 0 where
  pub events : List NamedEvent
  pub over : Bool

-- one more; what is counted by 64 bits stays at the greatest number
abbrev pub one_more : ℕ → ℕ
one_more n = min (n + 1) 18446744073709551615

-- the totals with an event more
abbrev pub counted : Totals → Named → Totals
counted n (named.Make t m ops b) = record n {
  events = one_more n.events;
  made = one_more n.made;
  registrations = one_more n.registrations;
}
counted n (named.Reg q t m) = record n { events = one_more n.events; registrations = one_more n.registrations }
counted n (named.Sig t x) = record n { events = one_more n.events; signals = one_more n.signals }
counted n (named.Pass t) = record n { events = one_more n.events; passes = one_more n.passes }
counted n (named.Send t a v) = record n { events = one_more n.events; sends = one_more n.sends }
counted n (named.Drop t) = record n { events = one_more n.events; drops = one_more n.drops }
counted n _ = record n { events = one_more n.events }

-- the totals of no event
abbrev pub no_totals : Totals
no_totals = record { events = 0; made = 0; registrations = 0; signals = 0; passes = 0; drops = 0; sends = 0 }

-- the totals of these events
abbrev pub totals_of : List NamedEvent → Totals
totals_of [] = no_totals
totals_of (e ∷ es) = counted (totals_of es) e.event

-- how many turns the task has ended, if it is registered
abbrev pub turns_of : List Event → ℕ → ℕ
turns_of h n = option_map_or (λ r. r.phase) (registration n h) 0

-- the first phase that none of these tasks has passed
abbrev pub first_phase : List Event → List (ℕ × ℕ) → ℕ
first_phase h [] = 0
first_phase h (p ∷ names) = max (turns_of h p.1) (first_phase h names)

-- there are so many phasers: those of these numbers, which rise
pub record AreThere (stands : ℕ → Option Standing) (count : ℕ) : Type 0 where
  pub numbers : List ℕ
  pub rising : IsStrictlySortedBy nat_cmp numbers
  pub each : (p : ℕ) → is_some (stands p) ≡ list_any (eq_by_cmp nat_cmp p) numbers
  pub count_is : count ≡ length numbers
