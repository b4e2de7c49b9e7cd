-- Where each step of the code leaves what it keeps.
use Rattle.std.specs.Prelude.{ℕ, ◌≡◌, Bool, true, false, List, Option, is_some, Result, Ok, Err}
use Rattle.std.specs.Ordering.{nat_cmp}
use Rattle.std.specs.BTreeMap.{BTreeMap, get}
use Rattle.phase_model.specs.declared.history.Event.{Event}
use Rattle.phase_model.specs.Rules.{Story}
use Rattle.phase_model.specs.Replies.{reply, after}
use Rattle.told_history.specs.declared.wide.LongEvent.{LongEvent}
use Rattle.told_history.specs.declared.wide.LongEvent.TheVariants as longs
use Rattle.phaser_judge.specs.declared.event.Named.{Named}
use Rattle.phaser_judge.specs.declared.event.Named.TheVariants as named
use Rattle.phaser_judge.specs.declared.refused.Refused.{Refused}
use Rattle.phaser_judge.specs.declared.event.NamedEvent.{NamedEvent}
use Rattle.phaser_judge.specs.Standings.{Standing, standing}
use Rattle.phaser_judge.specs.declared.totals.Totals.{Totals}
use Rattle.phaser_judge.specs.Renaming.{all_come}
use Rattle.phaser_judge.specs.Reasons.{call_of}
use Rattle.phaser_judge.specs.Courses.{totals_of}

-- the event registers no child
abbrev pub IsNoRegistration : Named → Type 0
IsNoRegistration (named.Reg q t m) = ⊥
IsNoRegistration _ = Unit {0}

-- the event is one of a task that is registered, and registers nobody
abbrev pub IsOfTask : LongEvent → Type 0
IsOfTask (longs.Make t m) = ⊥
IsOfTask (longs.Reg q t m) = ⊥
IsOfTask _ = Unit {0}

-- it is an event of a phaser that is made
abbrev pub IsNoMaking : Named → Type 0
IsNoMaking (named.Make t m ops b) = ⊥
IsNoMaking _ = Unit {0}

-- where an event's call leaves the story
abbrev pub left : Story → Event → Story
left s e = after s (reply s (call_of e))

-- the same of an event that may have no numbers
abbrev pub left_by : Story → Result Event Refused → Story
left_by s (Ok e) = left s e
left_by s (Err r) = s

-- the phaser of this number
abbrev pub at : BTreeMap ℕ Standing → ℕ → Option Standing
at m p = get nat_cmp m p

-- what the judge keeps is what these events tell
pub record IsKept (phasers : BTreeMap ℕ Standing) (counts : Totals) (over : Bool) (events : List NamedEvent) : Type 0 where
  pub standings : over ≡ false → (p : ℕ) → at phasers p ≡ standing p events
  pub there : (p : ℕ) → is_some (at phasers p) ≡ is_some (standing p events)
  pub totals : counts ≡ totals_of events
  pub come : all_come events ≡ true
