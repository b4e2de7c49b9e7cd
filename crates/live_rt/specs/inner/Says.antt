-- What the body of a task says of what its task has seen, while both live.
use Rattle.std.specs.Prelude.{ℕ, ◌≡◌, List, Option, Result, IfSome}
use Rattle.phase_modes.specs.declared.phased.Pair.{Pair}
use Rattle.phase_modes.specs.declared.refusal.Refusal.{Refusal}
use Rattle.phase_model.specs.Laws.{IsLegal}
use Rattle.phase_model.specs.Rules.{Story}
use Rattle.world_model.specs.declared.event.Begun.{Begun}
use Rattle.trace_model.specs.declared.event.TracedEvent.{TracedEvent}
use Rattle.job_script.specs.declared.act.Act.{Act}
use Rattle.job_script.specs.declared.act.Answer.{Answer}
use Rattle.told_history.specs.Stories.{GoesOn}
use Rattle.task_standing.specs.Known.{Known}
use Rattle.tasks_in_flight.specs.Heard.{Asked, Seen, at_start, nothing, spawn, asked_by, pairs_for, IsSpawned}
use Rattle.tasks_in_flight.specs.Said.{Saying}
use Rattle.tasks_in_flight.specs.inner.Ready.{IsReady, IsAskedFor, made_then}
use Rattle.live_rt.specs.Said.{AreLegal}
use Rattle.live_rt.specs.inner.Places.{Spot, story_of, in_slot}

-- what a task has seen that knows this of itself: by which numbers phasers know it, their stories, and what it has begun
abbrev pub seen_as : (ℕ → ℕ) → (ℕ → Story) → List TracedEvent → Known → Seen
seen_as own stories log k = record { own = own; stories = stories; holding = k.holding; log = log }

-- of each phaser that it holds it is what its place tells; and each story is legal
pub record IsSeen (places : List Spot) (own : ℕ → ℕ) (stories : ℕ → Story) : Type 0 where
  pub placed : (n : ℕ) → IfSome (in_slot n places) (λ p. (own n ≡ p.me) × (stories n ≡ story_of p))
  pub legal : AreLegal stories

-- it says this of what its task has seen, and asked for this by its last act
pub record Asks {B : Type 0} (Shows : Saying B) (b : B) (asked : Asked) (places : List Spot) (k : Known) : Type 0 where
  pub own : ℕ → ℕ
  pub stories : ℕ → Story
  pub log : List TracedEvent
  pub seen : IsSeen places own stories
  pub says : Shows b k.number asked (seen_as own stories log k)

-- the same of what is begun so
pub record AsksFor {B : Type 0} (Shows : Saying B) (b : B) (begun : Begun) (places : List Spot) (k : Known) : Type 0 where
  pub asked : Asked
  pub fits : IsAskedFor begun k.holding asked
  pub asks : Asks Shows b asked places k

-- what a child with this body, of any number, says at its start of what its parent had seen
abbrev pub SaysAtStart : {B : Type 0} → Saying B → B → (ℕ → Story) → Type 0
SaysAtStart Shows child stories = (its : ℕ) (own : ℕ → ℕ) → Shows child its nothing (at_start own stories)

-- it says this by this act, and so does each child that it spawns by it
pub record HasStepped {B : Type 0} (Shows : Saying B) (b : B) (act : Result (Act B) Refusal) (places : List Spot) (k : Known) : Type 0 where
  pub asks : Asks Shows b (asked_by act) places k
  pub bears : (child : B) → IsSpawned child act → SaysAtStart Shows child asks.stories

-- it asked for this child, on these phasers
pub record AsksToSpawn {B : Type 0} (Shows : Saying B) (b child : B) (pairs : List Pair) (places : List Spot) (k : Known) : Type 0 where
  pub to : Option (List Pair)
  pub same : pairs ≡ pairs_for to k.holding
  pub asks : Asks Shows b (spawn to) places k
  pub bears : SaysAtStart Shows child asks.stories

-- It says this of what its task had seen once, and is about to hear this of its last act. Of each phaser it has seen the
-- beginning of a legal history, then and now.
pub record IsAbout {B : Type 0} (Shows : Saying B) (b : B) (answer : Option Answer) (places : List Spot) (k : Known) : Type 0 where
  pub own : ℕ → ℕ
  pub stories : ℕ → Story
  pub log : List TracedEvent
  pub seen : IsSeen places own stories
  pub ready : IsReady Shows (made_then answer) b k.number k.plan answer (seen_as own stories log k)
  pub legal : AreLegal ready.seen.stories

-- A task of this number that is not born yet says this at its start, by whichever numbers phasers will know it: of no more
-- than what it was handed, and of no more than what its parent has seen. Each of those is the beginning of a legal history.
pub record IsUnborn {B : Type 0} (Shows : Saying B) (b : B) (its : ℕ) (places parents : List Spot) : Type 0 where
  pub stories : ℕ → Story
  pub says : (own : ℕ → ℕ) → Shows b its nothing (at_start own stories)
  pub legal : AreLegal stories
  pub handed : (n : ℕ) → IfSome (in_slot n places) (λ p. GoesOn (stories n) (story_of p) × IsLegal (story_of p))
  pub known : (n : ℕ) → IfSome (in_slot n parents) (λ p. GoesOn (stories n) (story_of p))
