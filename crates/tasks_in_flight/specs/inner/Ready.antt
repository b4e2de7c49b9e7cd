-- What the body of a task in flight says, and how far its last act has come.
use Rattle.std.specs.Prelude.{ℕ, ◌≡◌, ◌⊎◌, ◌<◌, Bool, true, false, List, [], ◌∷◌, Option, Some, None, map, slice_get}
use Rattle.phase_modes.specs.declared.phased.Pair.{Pair}
use Rattle.phase_modes.specs.Mode.{can_wait}
use Rattle.phase_model.specs.declared.history.Event.{Event}
use Rattle.phase_model.specs.declared.history.Event.TheVariants.{Sig, Pass}
use Rattle.phase_model.specs.Phases.{waits, IsClosed}
use Rattle.phase_model.specs.Rules.{Story}
use Rattle.phase_model.specs.Tasks.{has_mode}
use Rattle.world_model.specs.declared.event.Begun.{Begun}
use Rattle.world_model.specs.declared.event.Begun.TheVariants as begun
use Rattle.world_model.specs.declared.event.WorldEvent.{WorldEvent}
use Rattle.trace_model.specs.TaskLog.{TaskLog}
use Rattle.job_script.specs.declared.act.Answer.{Answer}
use Rattle.job_script.specs.declared.act.Answer.TheVariants.{Done, Spawned}
use Rattle.told_history.specs.Tails.{IsTail}
use Rattle.table_receipts.specs.Logs.{Sight}
use Rattle.table_receipts.specs.Seen.{story_at}
use Rattle.task_standing.specs.declared.held.Held.{Held}
use Rattle.task_standing.specs.declared.plan.Plan.{Plan}
use Rattle.task_standing.specs.declared.plan.Plan.TheVariants.{Idle, Signalling, Turning, Spawning, Shutting, Ending}
use Rattle.task_standing.specs.Known.{Known}
use Rattle.task_standing.specs.Standing.{owes}
use Rattle.tasks_in_flight.specs.Heard.{Asked, Seen, SeesMoreBut, HasDone, HasPassed, HasSignalledAll, HoldsTheSame, IsToldOf, made_by, pairs_for}
use Rattle.tasks_in_flight.specs.Heard as heard
use Rattle.tasks_in_flight.specs.Said.{Saying}
use Rattle.tasks_in_flight.specs.inner.Due.{still_of}

-- what a task has seen that has these fronts, knows this of itself and has this log: each phaser knows it by its own number
abbrev pub seen_by : List Sight → Known → TaskLog → Seen
seen_by fronts k own = record {
  own = λ n. k.number;
  stories = λ n. story_at fronts n;
  holding = k.holding;
  log = map (λ e. e.1) own.entries;
}

-- what the task of this number has seen in the end, when it holds nothing
abbrev pub seen_at_end : ℕ → List Sight → TaskLog → Seen
seen_at_end task fronts own = record {
  own = λ n. task;
  stories = λ n. story_at fronts n;
  holding = [];
  log = map (λ e. e.1) own.entries;
}

-- of each phaser no less was seen, under the same number, and what was noted stands
abbrev pub SeesMore : Seen → Seen → Type 0
SeesMore seen now = SeesMoreBut None seen now

-- by its last act it asked for this; and it says this of what it had seen then, of which now no less is seen
abbrev pub Says : {B : Type 0} → Saying B → B → ℕ → Asked → Seen → Type 0
Says Shows b task asked now = (seen : Seen) × Shows b task asked seen × SeesMore seen now

-- the same, whatever it asked for by its last act
abbrev pub HasSaid : {B : Type 0} → Saying B → B → ℕ → Seen → Type 0
HasSaid Shows b task now = (asked : Asked) × Says Shows b task asked now

-- ---- how far an act has come

-- this is the phaser's newest event, and came after all that had been seen of it
abbrev pub HasJustDone : Event → Story → Story → Type 0
HasJustDone e seen now = (before : List Event) × (now.past ≡ e ∷ before) × IsTail seen.past before

-- the task has just passed a phase, which was closed if the task can wait
abbrev pub HasJustPassed : ℕ → Story → Story → Type 0
HasJustPassed task seen now =
    (before : List Event)
    × (now.past ≡ Pass task ∷ before)
    × IsTail seen.past before
    × (has_mode can_wait task (Pass task ∷ before) ≡ true → IsClosed (waits task before) (Pass task ∷ before))

-- what the body hears of an act that is begun so, once it has ended
abbrev pub answer_of : Begun → Option Answer
answer_of (begun.Async c ps) = Some (Spawned c)
answer_of begun.End = None
answer_of _ = Some Done

-- each phaser where it owed a signal it owes one still, or it has signalled there
abbrev pub IsSignalling : Option ℕ → Seen → Seen → Type 0
IsSignalling x seen now =
    (i : ℕ) (h h' : Held) → slice_get seen.holding i ≡ Some h → slice_get now.holding i ≡ Some h' → owes h ≡ true
    → (owes h' ≡ true) ⊎ HasDone (Sig (now.own h.phaser) x) (seen.stories h.phaser) (now.stories h.phaser)

-- it has passed the first so many phasers that it held
abbrev pub IsTurning : ℕ → Seen → Seen → Type 0
IsTurning many seen now =
    (i : ℕ) (h : Held) → i < many → slice_get seen.holding i ≡ Some h
    → HasPassed (now.own h.phaser) (seen.stories h.phaser) (now.stories h.phaser)

-- how far an act has come that was asked for so and goes on by this plan
abbrev pub IsAsFar : Plan → Asked → Seen → Seen → Type 0
IsAsFar p heard.signal seen now = (p ≡ Signalling None false) × HoldsTheSame seen now × IsSignalling None seen now
IsAsFar p heard.wait seen now = (k : ℕ) × (p ≡ Turning k) × HoldsTheSame seen now × IsTurning k seen now
IsAsFar p (heard.next x) seen now =
    ((p ≡ Signalling x true) × HoldsTheSame seen now × IsSignalling x seen now)
    ⊎ ((k : ℕ) × (p ≡ Turning k) × HoldsTheSame seen now × HasSignalledAll x seen now × IsTurning k seen now)
IsAsFar p (heard.spawn to) seen now = (p ≡ Idle) ⊎ ((c : ℕ) × (ps : List Pair) × (made : ℕ) × (p ≡ Spawning c ps made))
IsAsFar p heard.shuts seen now = (p ≡ Idle) ⊎ (p ≡ Shutting)
IsAsFar p heard.ends seen now = ⊥
IsAsFar p _ seen now = p ≡ Idle

-- unless it gives up, this is about to be heard of what was asked for, if anything is, once nothing of it is left to make
abbrev pub IsPending : ℕ → Plan → Asked → Option Answer → Seen → Seen → Type 0
IsPending task plan asked (Some answer) seen now =
    (plan ≡ Ending → ⊥) → IsToldOf task asked answer seen now × IsAsFar plan asked seen now
IsPending task plan asked None seen now = Unit {0}

-- the phaser that was made, by what is about to be heard
abbrev pub made_then : Option Answer → Option ℕ
made_then (Some answer) = made_by answer
made_then None = None

-- by its last act it asked for something; it says this of what it had seen then, of which now no less is seen, but of the
-- phaser that was made since, if there is one; and it is about to hear this of it
pub record IsReady {B : Type 0} (Shows : Saying B) (made : Option ℕ) (b : B) (task : ℕ) (plan : Plan) (answer : Option Answer) (now : Seen) : Type 0 where
  pub asked : Asked
  pub seen : Seen
  pub says : Shows b task asked seen
  pub more : SeesMoreBut made seen now
  pub pending : IsPending task plan asked answer seen now

-- what it is about to hear is of what comes phaser by phaser
abbrev pub is_of_each : Option Answer → Bool
is_of_each (Some Done) = true
is_of_each (Some (Spawned c)) = true
is_of_each _ = false

-- an act that is begun so was asked for so, by a task that holds this
abbrev pub IsAskedFor : Begun → List Held → Asked → Type 0
IsAskedFor begun.Signal hs heard.signal = Unit {0}
IsAskedFor begun.Wait hs heard.wait = Unit {0}
IsAskedFor begun.Next hs (heard.next None) = Unit {0}
IsAskedFor (begun.NextSingle n) hs (heard.next (Some m)) = n ≡ m
IsAskedFor (begun.Async c ps) hs (heard.spawn to) = ps ≡ pairs_for to hs
IsAskedFor begun.Shut hs heard.shuts = Unit {0}
IsAskedFor begun.End hs heard.ends = Unit {0}
IsAskedFor _ hs _ = ⊥

-- it says this of what it has seen, and asked for what is begun so
abbrev pub HasAskedFor : {B : Type 0} → Saying B → B → ℕ → Begun → Seen → Type 0
HasAskedFor Shows b task begun now = (asked : Asked) × IsAskedFor begun now.holding asked × Shows b task asked now

-- it says this of what it has seen, and asked for a child on these phasers
abbrev pub HasAskedToSpawn : {B : Type 0} → Saying B → B → ℕ → List Pair → Seen → Type 0
HasAskedToSpawn Shows b task pairs now =
    (to : Option (List Pair)) × (pairs ≡ pairs_for to now.holding) × Shows b task (heard.spawn to) now

-- this event comes next of a task that knows this of itself, and may have a child that was never born; or none does
abbrev pub IsDue : Option WorldEvent → Known → Type 0
IsDue e k = (child : Option Known) × (slice_get (still_of k child) 0 ≡ e)

-- ---- what is told at the end

-- what a body says that has asked for its task's end is told of the task
abbrev pub Tells : {B : Type 0} → Saying B → (ℕ → Seen → Type 0) → Type 0
Tells {B} Shows Told = (b : B) (task : ℕ) (seen : Seen) → Shows b task heard.ends seen → Told task seen

-- this is told of the task, of what had been seen once, of which now no less is seen
abbrev pub IsTold : (ℕ → Seen → Type 0) → ℕ → Seen → Type 0
IsTold Told task now = (seen : Seen) × Told task seen × SeesMore seen now
