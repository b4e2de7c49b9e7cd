-- What a body asks for by its act, and what it hears.
use Rattle.std.specs.Prelude.{ℕ, ℤ, ◌≡◌, ◌⊎◌, true, List, [], ◌∷◌, ◌++◌, map, Option, Some, None, false, Result, Ok, Err, slice_get}
use Rattle.phase_modes.specs.declared.phased.Pair.{Pair}
use Rattle.phase_modes.specs.declared.reg.Mode.{Mode}
use Rattle.phase_modes.specs.declared.refusal.Refusal.{Refusal}
use Rattle.phase_modes.specs.Mode.{can_wait}
use Rattle.phase_model.specs.declared.history.Event.{Event}
use Rattle.phase_model.specs.declared.history.Event.TheVariants.{Make, Reg, Sig, Pass, Send}
use Rattle.phase_model.specs.declared.terms.Terms.{Terms}
use Rattle.phase_model.specs.Phases.{waits, IsClosed}
use Rattle.phase_model.specs.Rules.{Story}
use Rattle.phase_model.specs.Tasks.{has_mode}
use Rattle.world_model.specs.declared.event.Begun.{Begun}
use Rattle.world_model.specs.declared.event.Begun.TheVariants as begun
use Rattle.trace_model.specs.declared.event.TracedEvent.{TracedEvent}
use Rattle.trace_model.specs.declared.event.TracedEvent.TheVariants.{Begin}
use Rattle.job_script.specs.declared.act.Act.{Act}
use Rattle.job_script.specs.declared.act.Act.TheVariants as acts
use Rattle.job_script.specs.declared.act.Answer.{Answer}
use Rattle.job_script.specs.declared.act.Answer.TheVariants.{Started, Done, Made, Spawned, Saw}
use Rattle.long_locks.specs.Told.{HasLooked}
use Rattle.told_history.specs.Tails.{IsTail}
use Rattle.told_history.specs.Stories.{GoesOn}
use Rattle.task_standing.specs.declared.held.Held.{Held}
use Rattle.task_standing.specs.Standing.{owes, pair_of}

-- ---- what a task has seen

-- by which number each phaser knows the task; of each phaser the beginning of its story that the task has seen; the phasers
-- that it holds; and what it has noted in its own log, the oldest first
pub record Seen : Type 0 where
  pub own : ℕ → ℕ
  pub stories : ℕ → Story
  pub holding : List Held
  pub log : List TracedEvent

-- a task that holds and has noted nothing yet, is known by these numbers, and knows these stories
abbrev pub at_start : (ℕ → ℕ) → (ℕ → Story) → Seen
at_start own stories = record { own = own; stories = stories; holding = []; log = [] }

-- of phaser n no less was seen, under the same number
abbrev pub SeesMoreOf : ℕ → Seen → Seen → Type 0
SeesMoreOf n seen now = GoesOn (seen.stories n) (now.stories n) × (now.own n ≡ seen.own n)

-- of each phaser no less was seen, but for one that was made since, if there is one, whose number was another's before; and
-- what was noted stands
abbrev pub SeesMoreBut : Option ℕ → Seen → Seen → Type 0
SeesMoreBut made seen now =
    ((n : ℕ) → (made ≡ Some n) ⊎ SeesMoreOf n seen now) × ((more : List TracedEvent) × (now.log ≡ seen.log ++ more))

-- ---- what a body asks for

-- What a body asked for by its last act: nothing yet; to make a phaser with these terms, on which its task is registered in
-- this mode; to send a value to an accumulator of a phaser; to look at one; to signal; to end its turn; to do both, and to
-- propose a single of this number; to spawn a child on these phasers, or on all that the task holds; to open or to shut a
-- finish; or to end.
pub data Asked : Type 0 where
  nothing : Asked
  make : Mode → Terms → Asked
  send : ℕ → ℕ → ℤ → Asked
  look : ℕ → ℕ → Asked
  signal : Asked
  wait : Asked
  next : Option ℕ → Asked
  spawn : Option (List Pair) → Asked
  opens : Asked
  shuts : Asked
  ends : Asked

-- what this act asks for
abbrev pub asked_by : {B : Type 0} → Result (Act B) Refusal → Asked
asked_by (Ok (acts.New m ops bound)) = make m (record { ops = ops; bound = bound })
asked_by (Ok (acts.Send n a v)) = send n a v
asked_by (Ok (acts.Look n a)) = look n a
asked_by (Ok acts.Signal) = signal
asked_by (Ok acts.Wait) = wait
asked_by (Ok acts.Next) = next None
asked_by (Ok (acts.NextSingle n)) = next (Some n)
asked_by (Ok (acts.Async b ps)) = spawn (Some ps)
asked_by (Ok (acts.AsyncAll b)) = spawn None
asked_by (Ok acts.OpenFinish) = opens
asked_by (Ok acts.ShutFinish) = shuts
asked_by (Ok acts.End) = ends
asked_by (Err e) = nothing

-- this act spawns a child with this body
abbrev pub IsSpawned : {B : Type 0} → B → Result (Act B) Refusal → Type 0
IsSpawned child result = ((ps : _) × (result ≡ Ok (acts.Async child ps))) ⊎ (result ≡ Ok (acts.AsyncAll child))

-- on which phasers, and in which modes, a child is registered: as asked, or as the task itself is
abbrev pub pairs_for : Option (List Pair) → List Held → List Pair
pairs_for (Some ps) hs = ps
pairs_for None hs = map pair_of hs

-- how a turn is begun
abbrev pub turn_with : Option ℕ → Begun
turn_with None = begun.Next
turn_with (Some n) = begun.NextSingle n

-- ---- what came of it

-- the task made the phaser, in this mode and with these terms, and nothing else was done on it yet
abbrev pub HasMade : ℕ → Mode → Terms → Story → Type 0
HasMade task m terms s = (s.past ≡ Make task m ∷ []) × (s.terms ≡ terms)

-- this event was made, after all that had been seen of the phaser
abbrev pub HasDone : Event → Story → Story → Type 0
HasDone e seen now = (later before : List Event) × (now.past ≡ later ++ e ∷ before) × IsTail seen.past before

-- the task sent this value, after all that it had seen of the phaser
abbrev pub HasSent : ℕ → ℕ → ℤ → Story → Story → Type 0
HasSent task a v seen now = HasDone (Send task a v) seen now

-- The task passed a phase, after all that it had seen of the phaser. If it can wait, each task that was registered then, and
-- can signal, had signalled that phase.
abbrev pub HasPassed : ℕ → Story → Story → Type 0
HasPassed task seen now =
    (later before : List Event)
    × (now.past ≡ later ++ Pass task ∷ before)
    × IsTail seen.past before
    × (has_mode can_wait task (Pass task ∷ before) ≡ true → IsClosed (waits task before) (Pass task ∷ before))

-- the task signalled each phaser that it held where it owed a signal, with this number of a single
abbrev pub HasSignalledAll : Option ℕ → Seen → Seen → Type 0
HasSignalledAll x seen now =
    (i : ℕ) (h : Held) → slice_get seen.holding i ≡ Some h → owes h ≡ true
    → HasDone (Sig (now.own h.phaser) x) (seen.stories h.phaser) (now.stories h.phaser)

-- the task passed each phaser that it held
abbrev pub HasPassedAll : Seen → Seen → Type 0
HasPassedAll seen now =
    (i : ℕ) (h : Held) → slice_get seen.holding i ≡ Some h
    → HasPassed (now.own h.phaser) (seen.stories h.phaser) (now.stories h.phaser)

-- it holds the same phasers, in the same modes
abbrev pub HoldsTheSame : Seen → Seen → Type 0
HoldsTheSame seen now = map pair_of now.holding ≡ map pair_of seen.holding

-- it has noted that it began this act, and nothing else
abbrev pub HasBegun : ℕ → Begun → Seen → Seen → Type 0
HasBegun task b seen now = now.log ≡ seen.log ++ Begin task b ∷ []

-- it holds what it held, and has noted nothing
abbrev pub IsAsBefore : Seen → Seen → Type 0
IsAsBefore seen now = (now.holding ≡ seen.holding) × (now.log ≡ seen.log)

-- none of the phasers that it holds has this number
abbrev pub HoldsNot : ℕ → Seen → Type 0
HoldsNot n seen = (i : ℕ) (h : Held) → slice_get seen.holding i ≡ Some h → h.phaser ≡ n → ⊥

-- it holds this phaser too, in this mode, in one of its finishes, and has noted nothing
abbrev pub HoldsMore : ℕ → Mode → Seen → Seen → Type 0
HoldsMore n m seen now =
    ((f : ℕ) × (now.holding ≡ seen.holding ++ record { phaser = n; finish = f; mode = m; ahead = false } ∷ []))
    × (now.log ≡ seen.log)

-- The newest event is the task's signal, its registration of a child, or its pass. Where one that can wait has passed a
-- phase, each who is registered now, and can signal, had signalled it.
abbrev pub IsOwn : ℕ → List Event → Type 0
IsOwn task (Sig t x ∷ h) = t ≡ task
IsOwn task (Reg t child m ∷ h) = t ≡ task
IsOwn task (Pass t ∷ h) = (t ≡ task) × (has_mode can_wait t (Pass t ∷ h) ≡ true → IsClosed (waits t h) (Pass t ∷ h))
IsOwn task _ = ⊥

-- of each phaser no more was seen, or up to the task's own newest event in it
abbrev pub IsOwnOfEach : Seen → Seen → Type 0
IsOwnOfEach seen now = (n : ℕ) → (now.stories n ≡ seen.stories n) ⊎ IsOwn (now.own n) (now.stories n).past

-- So the task of this number is told what it asked for, and nothing else is an answer to it; after its end none comes. A
-- phaser that it made has the number of none that it held. A look saw the fold of all values that were sent for the phase
-- before the task's own, which was closed.
abbrev pub IsToldOf : ℕ → Asked → Answer → Seen → Seen → Type 0
IsToldOf task nothing Started seen now = now.log ≡ seen.log
IsToldOf task (make m terms) (Made n) seen now =
    HasMade (now.own n) m terms (now.stories n) × HoldsMore n m seen now × HoldsNot n seen
IsToldOf task (send n a v) Done seen now = HasSent (now.own n) a v (seen.stories n) (now.stories n) × IsAsBefore seen now
IsToldOf task (look n a) (Saw x) seen now =
    HasLooked (now.stories n).terms.ops (now.own n) a (now.stories n).past x × IsAsBefore seen now
IsToldOf task signal Done seen now = HasBegun task begun.Signal seen now × IsOwnOfEach seen now
IsToldOf task wait Done seen now = HasBegun task begun.Wait seen now × IsOwnOfEach seen now
IsToldOf task (next x) Done seen now = HasBegun task (turn_with x) seen now × IsOwnOfEach seen now
IsToldOf task (spawn to) (Spawned c) seen now =
    HasBegun task (begun.Async c (pairs_for to seen.holding)) seen now × (now.holding ≡ seen.holding) × IsOwnOfEach seen now
IsToldOf task opens Done seen now = IsAsBefore seen now
IsToldOf task shuts Done seen now = HasBegun task begun.Shut seen now
IsToldOf task _ _ seen now = ⊥

-- and what it asked for has been carried out on each phaser that it held: signalled where it owed that, passed
abbrev pub IsCarriedOut : Asked → Seen → Seen → Type 0
IsCarriedOut signal seen now = HoldsTheSame seen now × HasSignalledAll None seen now
IsCarriedOut wait seen now = HoldsTheSame seen now × HasPassedAll seen now
IsCarriedOut (next x) seen now = HoldsTheSame seen now × HasSignalledAll x seen now × HasPassedAll seen now
IsCarriedOut _ seen now = Unit {0}

-- this is an answer to what was asked for
abbrev pub IsAnswerTo : ℕ → Asked → Answer → Seen → Seen → Type 0
IsAnswerTo task asked answer seen now = IsToldOf task asked answer seen now × IsCarriedOut asked seen now

-- the phaser that was made, by what is heard
abbrev pub made_by : Answer → Option ℕ
made_by (Made n) = Some n
made_by _ = None

-- the body of a task that had seen this much has seen no less now, but of a phaser of which it hears that it made it; and
-- hears what it asked for
abbrev pub IsHeard : ℕ → Asked → Answer → Seen → Seen → Type 0
IsHeard task asked answer seen now = SeesMoreBut (made_by answer) seen now × IsAnswerTo task asked answer seen now
