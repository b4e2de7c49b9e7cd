-- What refuses an act, in the order in which it is asked, of a task of which so much is known. It is told here alone:
-- a history answers what is asked, and so does whatever keeps less than a history.
use Rattle.std.specs.Prelude.{ℕ, Bool, true, false, ◌||◌, ◌==◌, not, nat_lt, List, [], ◌∷◌, ◌++◌, Option, Some, None, Result, Ok, Err}
use Rattle.std.specs.List.{list_any}
use Rattle.phase_modes.specs.declared.refusal.Refusal.TheVariants.{NotRegistered, NoSingle, AlreadySignalled, NotSignalled, OnePhaserOnly, MoreThanParent, OutsideScope, RegisteredTwice, PhasersFull, TasksFull, FinishesFull, ActsFull, FinishOpen, NoFinish}
use Rattle.phase_modes.specs.declared.limits.Limits.{Limits}
use Rattle.phase_modes.specs.declared.phased.Pair.{Pair}
use Rattle.phase_modes.specs.declared.reg.Mode.{Mode}
use Rattle.phase_modes.specs.declared.refusal.Refusal.{Refusal}
use Rattle.world_model.specs.declared.event.Begun.{Begun}
use Rattle.world_model.specs.declared.event.Tried.{Tried}
use Rattle.world_model.specs.declared.event.Begun.TheVariants.{Async, Signal, Wait, Next, NextSingle, Shut, End}
use Rattle.world_model.specs.declared.event.Tried.TheVariants.{Begun as Beginning, New, Open}

-- what is asked of the task that tries an act
pub record Facts : Type 0 where
  -- it is registered on this phaser now
  pub is_on : ℕ → Bool
  -- and in a mode within which this one is
  pub may_give : Mode → ℕ → Bool
  -- its innermost finish encloses this phaser
  pub is_inside : ℕ → Bool
  -- on how many phasers it is
  pub phasers : ℕ
  -- on one of them it has signalled since its last turn
  pub leads : Bool
  -- on one of them it owes a signal
  pub owes : Bool
  -- on each of them its mode has singles
  pub has_singles : Bool
  -- it has no finish open
  pub all_shut : Bool
  -- how many acts it has begun
  pub acts : ℕ

-- the end is no counted act
abbrev pub is_counted : Tried → Bool
is_counted (Beginning End) = false
is_counted _ = true

-- the pair names this phaser
abbrev pub pair_names : ℕ → Pair → Bool
pair_names n p = p.phaser == n

-- that it may hand the phaser of a pair to a child; the spawn may have named that phaser before
abbrev pub hand_conditions : Facts → Bool → Pair → List (Refusal × Bool)
hand_conditions k is_named p =
    (NotRegistered, k.is_on p.phaser)
    ∷ (MoreThanParent, k.may_give p.mode p.phaser)
    ∷ (OutsideScope, k.is_inside p.phaser)
    ∷ (RegisteredTwice, not is_named)
    ∷ []

-- pair by pair, if the spawn has named others before
abbrev pub pair_conditions : Facts → List ℕ → List Pair → List (Refusal × Bool)
pair_conditions k named [] = []
pair_conditions k named (p ∷ ps) =
    hand_conditions k (list_any (λ n. n == p.phaser) named) p ++ pair_conditions k (p.phaser ∷ named) ps

-- those of an act that is begun
abbrev pub begin_conditions : Limits → Facts → Begun → List (Refusal × Bool)
begin_conditions l k (Async c pairs) = (TasksFull, nat_lt c l.tasks) ∷ pair_conditions k [] pairs
begin_conditions l k Signal = (AlreadySignalled, not k.leads) ∷ []
begin_conditions l k Wait = (NotSignalled, not k.owes) ∷ []
begin_conditions l k Next = []
begin_conditions l k (NextSingle x) =
    (OnePhaserOnly, k.phasers == 1) ∷ (NoSingle, k.has_singles) ∷ (AlreadySignalled, not k.leads) ∷ []
begin_conditions l k Shut = (NoFinish, not k.all_shut) ∷ []
begin_conditions l k End = (FinishOpen, k.all_shut) ∷ []

-- a task is on at most so many phasers at once
abbrev pub most_phasers_held : ℕ
most_phasers_held = 16

-- those of making phaser n
abbrev pub new_conditions : Limits → Facts → ℕ → List (Refusal × Bool)
new_conditions l k n = (PhasersFull, nat_lt n l.phasers) ∷ (PhasersFull, nat_lt k.phasers most_phasers_held) ∷ []

-- those of opening finish f
abbrev pub opening_conditions : Limits → ℕ → List (Refusal × Bool)
opening_conditions l f = (FinishesFull, nat_lt f l.finishes) ∷ []

-- any act's own; a value and a look have those of their phaser alone
abbrev pub own_conditions : Limits → Facts → Tried → List (Refusal × Bool)
own_conditions l k (Beginning b) = begin_conditions l k b
own_conditions l k (New n m terms) = new_conditions l k n
own_conditions l k (Open f) = opening_conditions l f
own_conditions l k _ = []

-- a counted act is one of so many
abbrev pub count_condition : Limits → Facts → Bool → Refusal × Bool
count_condition l k counted = (ActsFull, not counted || nat_lt k.acts l.acts)

-- what the first condition that isn't met refuses
abbrev pub free_unless : Option Refusal → Result (Unit {0}) Refusal
free_unless None = Ok tt
free_unless (Some r) = Err r
