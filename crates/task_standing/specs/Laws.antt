-- What a task knows stays what the history says of it, event by event. In each law the history is legal with its new
-- event.
use Rattle.std.specs.Prelude.{ℕ, ◌≡◌, true, false, ◌==◌, ◌<◌, ◌^◌, List, ◌∷◌, map, Option, ℤ, filter, not, drop, [], ◌++◌, length, ◌≤◌}
use Rattle.phase_modes.specs.declared.limits.Limits.{Limits}
use Rattle.phase_modes.specs.declared.reg.Mode.{Mode}
use Rattle.phase_model.specs.declared.terms.Terms.{Terms}
use Rattle.finish_core.specs.declared.event.FinishEvent.TheVariants.{Opened, Spawned, Shut as Shutting}
use Rattle.world_model.specs.declared.event.Step.TheVariants.{Sig, Claim, Did, Pass, Send, Look, Drop, Make, Reg}
use Rattle.world_model.specs.declared.event.WorldEvent.{WorldEvent}
use Rattle.world_model.specs.declared.event.WorldEvent.TheVariants.{Phaser, Finish, Begin, Refuse, Fail}
use Rattle.world_model.specs.Actors.{actor}
use Rattle.world_model.specs.Tasks.{is_born, spawner}
use Rattle.world_model.specs.Replies.{is_legal_world}
use Rattle.world_model.specs.Scopes.{owner}
use Rattle.world_model.specs.declared.event.Begun.{Begun}
use Rattle.world_model.specs.declared.event.Tried.{Tried}
use Rattle.world_model.specs.Due.{unborn}
use Rattle.task_standing.specs.declared.plan.Plan.TheVariants as plan
use Rattle.task_standing.specs.declared.plan.Plan.{Plan}
use Rattle.task_standing.specs.Known.{Known}
use Rattle.task_standing.specs.Standing.{marked, passed_by, acted, shut_by, inner_of, registered_by, begun, fresh}
use Rattle.task_standing.specs.Noted.{plan_of}
use Rattle.task_standing.specs.Histories.{IsAbout, IsOf}

-- an event of another task leaves what this one knows
abbrev pub OthersLeave : Type 0
OthersLeave = (l : Limits) (e : WorldEvent) (w : List WorldEvent) (k : Known) → is_legal_world l (e ∷ w) ≡ true
    → is_born k.number w ≡ true → (actor w e == k.number) ≡ false → IsAbout w k → IsAbout (e ∷ w) k

-- a task's signal marks the phaser: the task is ahead there
abbrev pub SignalMarks : Type 0
SignalMarks = (l : Limits) (w : List WorldEvent) (k : Known) (n : ℕ) (x : Option ℕ)
    → is_legal_world l (Phaser n (Sig k.number x) ∷ w) ≡ true → IsAbout w k
    → IsAbout (Phaser n (Sig k.number x) ∷ w) (record k { holding = map (marked n true) k.holding })

-- its pass takes the mark off, and brings a turn to its next phaser
abbrev pub PassUnmarks : Type 0
PassUnmarks = (l : Limits) (w : List WorldEvent) (k : Known) (n : ℕ)
    → is_legal_world l (Phaser n (Pass k.number) ∷ w) ≡ true → IsAbout w k
    → IsAbout (Phaser n (Pass k.number) ∷ w)
    (record k { plan = passed_by k.plan; holding = map (marked n false) k.holding })

-- its claim of a single, and its report of one, leave what it knows
pub record SinglesLeave : Type 0 where
  pub claims : (l : Limits) (w : List WorldEvent) (k : Known) (n : ℕ)
      → is_legal_world l (Phaser n (Claim k.number) ∷ w) ≡ true → IsAbout w k → IsAbout (Phaser n (Claim k.number) ∷ w) k
  pub reports : (l : Limits) (w : List WorldEvent) (k : Known) (n : ℕ)
      → is_legal_world l (Phaser n (Did k.number) ∷ w) ≡ true → IsAbout w k → IsAbout (Phaser n (Did k.number) ∷ w) k

-- a count of 64 bits holds each act that a task may begin under these limits
abbrev pub ActsFit : Limits → Type 0
ActsFit l = l.acts < 2 ^ 64

-- a value that it sends and a look are an act more each, of which nothing is left; here and below the acts fit
abbrev pub SendsAreActs : Type 0
SendsAreActs = (l : Limits) (w : List WorldEvent) (k : Known) (n i : ℕ) (v : ℤ) → ActsFit l
    → is_legal_world l (Phaser n (Send k.number i v) ∷ w) ≡ true → IsAbout w k
    → IsAbout (Phaser n (Send k.number i v) ∷ w) (acted k)

abbrev pub LooksAreActs : Type 0
LooksAreActs = (l : Limits) (w : List WorldEvent) (k : Known) (n i : ℕ) → ActsFit l
    → is_legal_world l (Phaser n (Look k.number i) ∷ w) ≡ true → IsAbout w k
    → IsAbout (Phaser n (Look k.number i) ∷ w) (acted k)

-- if it leaves a phaser, it holds all others as before
abbrev pub LeavesLeave : Type 0
LeavesLeave = (l : Limits) (w : List WorldEvent) (k : Known) (n : ℕ)
    → is_legal_world l (Phaser n (Drop k.number) ∷ w) ≡ true → is_born k.number w ≡ true → IsAbout w k
    → IsAbout (Phaser n (Drop k.number) ∷ w) (record k { holding = filter (λ h. not (h.phaser == n)) k.holding })

-- a finish that it opens is its innermost: an act more, of which nothing is left
abbrev pub OpeningsOpen : Type 0
OpeningsOpen = (l : Limits) (w : List WorldEvent) (k : Known) (f : ℕ) → ActsFit l
    → is_legal_world l (Finish f (Opened k.number) ∷ w) ≡ true → IsAbout w k
    → IsAbout (Finish f (Opened k.number) ∷ w) (record (acted k) { finishes = f ∷ k.finishes })

-- a shut by it of any finish but finish 0, which is the root's end, takes its innermost one
abbrev pub ShutsShut : Type 0
ShutsShut = (l : Limits) (w : List WorldEvent) (k : Known) (f : ℕ)
    → is_legal_world l (Finish f Shutting ∷ w) ≡ true → (f == 0) ≡ false → owner f w ≡ k.number → IsAbout w k
    → IsAbout (Finish f Shutting ∷ w) (record k { plan = shut_by k.plan; finishes = drop 1 k.finishes })

-- with the birth of its child its spawn is made
abbrev pub BirthsEndSpawns : Type 0
BirthsEndSpawns = (l : Limits) (w : List WorldEvent) (k : Known) (f c : ℕ)
    → is_legal_world l (Finish f (Spawned c) ∷ w) ≡ true → spawner c w ≡ k.number → IsAbout w k
    → IsAbout (Finish f (Spawned c) ∷ w) (record k { plan = plan.Idle })

-- a phaser that it makes is held last, in its innermost finish: an act more, of which nothing is left
abbrev pub MakingsHold : Type 0
MakingsHold = (l : Limits) (w : List WorldEvent) (k : Known) (n : ℕ) (m : Mode) (terms : Terms) → ActsFit l
    → is_legal_world l (Phaser n (Make k.number m terms) ∷ w) ≡ true → IsAbout w k
    → IsAbout (Phaser n (Make k.number m terms) ∷ w) (record (acted k) {
      holding = k.holding ++ record { phaser = n; finish = inner_of k; mode = m; ahead = false } ∷ [];
    })

-- a plan names no more pairs than its type holds
abbrev pub NamesFew : Plan → Type 0
NamesFew (plan.Spawning c pairs made) = length pairs ≤ 16
NamesFew _ = Unit {0}

-- a registration of its child brings its spawn to the next pair
abbrev pub RegistrationsRegister : Type 0
RegistrationsRegister = (l : Limits) (w : List WorldEvent) (k : Known) (n c : ℕ) (m : Mode)
    → is_legal_world l (Phaser n (Reg k.number c m) ∷ w) ≡ true → NamesFew k.plan → IsAbout w k
    → IsAbout (Phaser n (Reg k.number c m) ∷ w) (record k { plan = registered_by k.plan })

-- an act that it begins goes on by its plan
abbrev pub BeginsBegin : Type 0
BeginsBegin = (l : Limits) (w : List WorldEvent) (k : Known) (b : Begun) → ActsFit l
    → is_legal_world l (Begin k.number b ∷ w) ≡ true → IsAbout w k → IsAbout (Begin k.number b ∷ w) (begun (plan_of b) k)

-- an act that is refused brings it to its end, whatever it was about
abbrev pub RefusalsEnd : Type 0
RefusalsEnd = (l : Limits) (w : List WorldEvent) (k : Known) (a : Tried) (n : ℕ)
    → is_legal_world l (Refuse k.number a n ∷ w) ≡ true → IsOf w k
    → IsAbout (Refuse k.number a n ∷ w) (record k { plan = plan.Ending })

-- the child that a plan names
abbrev pub named_child : Plan → List ℕ
named_child (plan.Spawning c pairs made) = c ∷ []
named_child _ = []

-- if it gives up, that is the one child that it named and that was never born
abbrev pub UnbornAreNamed : Type 0
UnbornAreNamed = (l : Limits) (w : List WorldEvent) (k : Known) (n : ℕ)
    → is_legal_world l (Fail k.number n ∷ w) ≡ true → IsAbout w k → unborn k.number w ≡ named_child k.plan

-- if its plan names none, giving up brings it to its end
abbrev pub FailuresEnd : Type 0
FailuresEnd = (l : Limits) (w : List WorldEvent) (k : Known) (n : ℕ)
    → is_legal_world l (Fail k.number n ∷ w) ≡ true → named_child k.plan ≡ [] → IsAbout w k
    → IsAbout (Fail k.number n ∷ w) (record k { plan = plan.Ending })

-- the root before the first event
abbrev pub RootsStartFresh : Type 0
RootsStartFresh = IsAbout [] (fresh 0 0)
