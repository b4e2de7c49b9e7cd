-- What is watched of a run: for each kind of number who draws it and which comes next, and how many tasks each phaser had.
use Rattle.std.specs.Prelude.{ℕ, ◌≡◌, ◌≢◌, ◌+◌, ◌==◌, ◌&&◌, nat_lt, Bool, true, false, if◌then◌else◌, List, Option, Some, None}
use Rattle.std.specs.List.{count_by}
use Rattle.std.specs.Option.{option_map_or}
use Rattle.std.specs.Ordering.{nat_cmp}
use Rattle.std.specs.BTreeMap.{BTreeMap, get}
use Rattle.phase_modes.specs.declared.limits.Limits.{Limits}
use Rattle.finish_core.specs.declared.event.FinishEvent.TheVariants.{Opened}
use Rattle.world_model.specs.declared.event.Step.TheVariants.{Make, Reg}
use Rattle.world_model.specs.declared.event.Begun.TheVariants.{Async}
use Rattle.world_model.specs.declared.event.WorldEvent.{WorldEvent}
use Rattle.world_model.specs.declared.event.WorldEvent.TheVariants as events
use Rattle.world_model.specs.Numbers.{is_phaser, is_finish, is_named}
use Rattle.run_laws.specs.Memory.{registrations}
use Rattle.run_laws.specs.Telling.{Told, told, makes, begins_child, opens}
use Rattle.run_laws.specs.declared.watch.Kind.{Kind}
use Rattle.run_laws.specs.declared.watch.Watch.{Watch}
use Rattle.run_laws.specs.declared.luck.Luck.{Luck}
use Rattle.run_laws.specs.Luck.{joined, luck_of}

-- ---- what the code makes of an event

-- nobody else than t has drawn such numbers
abbrev pub is_alone : Option ℕ → ℕ → Bool
is_alone None t = true
is_alone (Some u) t = u == t

-- the number comes next for t
abbrev pub draws : Kind → ℕ → ℕ → Bool
draws k t n = is_alone k.drawer t && n == k.next

-- the draws after that number
abbrev pub drawn : Kind → ℕ → ℕ → Kind
drawn k t n = if draws k t n then record { drawer = Some t; next = n + 1 } else k

-- how many tasks were registered on phaser n
abbrev pub count_in : BTreeMap ℕ ℕ → ℕ → ℕ
count_in m n = option_map_or (λ k. k) (get nat_cmp m n) 0

-- one more fits on phaser n
abbrev pub has_place_in : Watch → ℕ → Bool
has_place_in d n = nat_lt (count_in d.registered n) d.most

-- nothing was drawn and nobody registered
pub record IsFresh (most : ℕ) (d : Watch) : Type 0 where
  pub phasers : d.phasers ≡ record { drawer = None; next = 0 }
  pub tasks : d.tasks ≡ record { drawer = None; next = 1 }
  pub finishes : d.finishes ≡ record { drawer = None; next = 1 }
  pub registered : (n : ℕ) → count_in d.registered n ≡ 0
  pub most_is : d.most ≡ most

-- luck has no part in the event
abbrev pub is_taken : Watch → WorldEvent → Bool
is_taken d (events.Refuse t a n) = false
is_taken d (events.Fail t n) = false
is_taken d (events.Phaser n (Make t m terms)) = draws d.phasers t n && has_place_in d n
is_taken d (events.Phaser n (Reg q t m)) = has_place_in d n
is_taken d (events.Begin t (Async c pairs)) = draws d.tasks t c
is_taken d (events.Finish f (Opened t)) = draws d.finishes t f
is_taken d _ = true

-- what luck decides by an event that isn't taken
abbrev pub luck_taken : Watch → WorldEvent → Option Luck
luck_taken d e = if is_taken d e then None else luck_of e

-- the draws after the event, of each kind
abbrev pub phasers_after : Watch → WorldEvent → Kind
phasers_after d (events.Phaser n (Make t m terms)) = drawn d.phasers t n
phasers_after d _ = d.phasers

abbrev pub tasks_after : Watch → WorldEvent → Kind
tasks_after d (events.Begin t (Async c pairs)) = drawn d.tasks t c
tasks_after d _ = d.tasks

abbrev pub finishes_after : Watch → WorldEvent → Kind
finishes_after d (events.Finish f (Opened t)) = drawn d.finishes t f
finishes_after d _ = d.finishes

-- the phaser is this one
abbrev pub is_on : ℕ → Option ℕ → Bool
is_on n None = false
is_on n (Some m) = m == n

-- one task more was counted on the phaser, if one is named
abbrev pub OneMore : Option ℕ → BTreeMap ℕ ℕ → BTreeMap ℕ ℕ → Type 0
OneMore o old new = (n : ℕ) → count_in new n ≡ (if is_on n o then 1 else 0) + count_in old n

-- if it was taken, one task more was counted on phaser n; all else stays
pub record CountsMore (n : ℕ) (is_so : Bool) (old new : Watch) : Type 0 where
  pub phasers : new.phasers ≡ old.phasers
  pub tasks : new.tasks ≡ old.tasks
  pub finishes : new.finishes ≡ old.finishes
  pub most : new.most ≡ old.most
  pub registered : is_so ≡ true → OneMore (Some n) old.registered new.registered

-- if the event was taken, it was gone past
pub record IsAfter (e : WorldEvent) (is_so : Bool) (old new : Watch) : Type 0 where
  pub phasers : new.phasers ≡ phasers_after old e
  pub tasks : new.tasks ≡ tasks_after old e
  pub finishes : new.finishes ≡ finishes_after old e
  pub most : new.most ≡ old.most
  pub registered : is_so ≡ true → OneMore (joined e) old.registered new.registered

-- ---- what it stands for

-- how many events of this kind t has told
abbrev pub count_of : (WorldEvent → Bool) → ℕ → List WorldEvent → ℕ
count_of kind t w = count_by (λ (x : Told). kind x.event) (told t w)

-- nobody has drawn a number of this kind, of which the first is drawn next; or one task alone has, counting up from that,
-- which is in use
abbrev pub KindStands : (WorldEvent → Bool) → (ℕ → Bool) → ℕ → List WorldEvent → Option ℕ → ℕ → Type 0
KindStands kind used first w None next = ((t : ℕ) → count_of kind t w ≡ 0) × (next ≡ first)
KindStands kind used first w (Some u) next =
    (next ≡ count_of kind u w + first) × ((t : ℕ) → t ≢ u → count_of kind t w ≡ 0) × (used first ≡ true)

-- so it is of each kind, and each phaser had so many tasks
pub record Watches (l : Limits) (w : List WorldEvent) (d : Watch) : Type 0 where
  pub phasers : KindStands makes (λ n. is_phaser n w) 0 w d.phasers.drawer d.phasers.next
  pub tasks : KindStands begins_child (λ t. is_named t w) 1 w d.tasks.drawer d.tasks.next
  pub finishes : KindStands opens (λ f. is_finish f w) 1 w d.finishes.drawer d.finishes.next
  pub registered : (n : ℕ) → count_in d.registered n ≡ registrations n w
  pub most : d.most ≡ l.regs
