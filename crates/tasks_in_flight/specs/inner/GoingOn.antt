-- How a task goes on that a worker drives: it notes the event that was due, and nothing else. Of each step on a phaser, by the
-- phaser's number, `Made` says what is known of it.
use Rattle.std.specs.Prelude.{ℕ, ◌≡◌, ◌==◌, ◌⊎◌, Bool, true, false, Option, Result, IfOk, IfSome}
use Rattle.phase_modes.specs.declared.refusal.Refusal.{Refusal}
use Rattle.phaser_core.specs.declared.answer.SignalAnswer.{SignalAnswer}
use Rattle.phaser_core.specs.declared.answer.SignalAnswer.TheVariants.{Signalled, Parked as Held, Refused as NoSignal}
use Rattle.phaser_core.specs.declared.answer.PassAnswer.{PassAnswer}
use Rattle.phaser_core.specs.declared.answer.PassAnswer.TheVariants.{Passed, Claimed, Parked, Refused}
use Rattle.finish_core.specs.declared.event.FinishEvent.TheVariants.{Opened, Spawned, Shut}
use Rattle.world_model.specs.declared.event.Step.{Step}
use Rattle.world_model.specs.declared.event.Step.TheVariants.{Make, Reg, Sig, Claim, Pass, Send, Look, Drop}
use Rattle.world_model.specs.declared.event.WorldEvent.{WorldEvent}
use Rattle.world_model.specs.declared.event.WorldEvent.TheVariants.{Phaser, Finish, Begin, Refuse, Fail}
use Rattle.task_standing.specs.declared.plan.Due.{Due}
use Rattle.task_standing.specs.declared.plan.Due.TheVariants as due
use Rattle.task_standing.specs.declared.plan.Plan.TheVariants as plan
use Rattle.task_standing.specs.Known.{Known}
use Rattle.task_standing.specs.Noted.{noted}
use Rattle.tasks_in_flight.specs.inner.Due.{IsNext}

-- ---- what is made and noted

-- of a step nothing is said
abbrev pub any_step : ℕ → Step → Type 0
any_step n s = Unit {0}

-- the event was made: of a phaser's step that is said, of a finish nothing
abbrev pub IsMade : (ℕ → Step → Type 0) → WorldEvent → Type 0
IsMade Made (Phaser n s) = Made n s
IsMade Made _ = Unit {0}

-- the event was made and noted
abbrev pub HasNoted : (ℕ → Step → Type 0) → WorldEvent → Known → Known → Type 0
HasNoted Made e k k' = IsMade Made e × (k' ≡ noted e k)

-- the task gives up what it is about, and ends
abbrev pub given_up : Known → Known
given_up k = record k { plan = plan.Ending }

-- what a task knows once it has asked whether it may try an act: if it may not, it ends
abbrev pub tried_by : Bool → Known → Known
tried_by true k = k
tried_by false k = given_up k

-- it has noted an event that the phaser may refuse: then the task gives up
abbrev pub HasTried : (ℕ → Step → Type 0) → WorldEvent → Known → Known → Type 0
HasTried Made e k k' = HasNoted Made e k k' ⊎ (k' ≡ given_up k)

-- the task has claimed the single of phaser n, of which nothing is noted
abbrev pub HasClaimed : (ℕ → Step → Type 0) → ℕ → Known → Known → Type 0
HasClaimed Made n k k' = Made n (Claim k.number) × (k' ≡ k)

-- an act of t is begun or made by this event, or is refused, or t gives up
abbrev pub IsOfAct : ℕ → WorldEvent → Type 0
IsOfAct t (Phaser n (Make u m terms)) = u ≡ t
IsOfAct t (Phaser n (Send u a v)) = u ≡ t
IsOfAct t (Phaser n (Look u a)) = u ≡ t
IsOfAct t (Finish f (Opened u)) = u ≡ t
IsOfAct t (Begin u b) = u ≡ t
IsOfAct t (Refuse u a r) = u ≡ t
IsOfAct t (Fail u r) = u ≡ t
IsOfAct t _ = ⊥

-- an idle task has made one such event, and noted it
abbrev pub HasActed : (ℕ → Step → Type 0) → Known → Known → Type 0
HasActed Made k k' = (e : WorldEvent) × IsOfAct k.number e × IsMade Made e × (k' ≡ noted e k)

-- what comes of what was due, if the task goes on: after its end, and after the shut of finish 0, it doesn't. What is taken off
-- a phaser in place of a child isn't the task itself: if the task leaves, it notes that
abbrev pub GoesBy : (ℕ → Step → Type 0) → Due → Known → Known → Type 0
GoesBy Made due.Step k k' = HasActed Made k k'
GoesBy Made (due.Signal n x) k k' = HasTried Made (Phaser n (Sig k.number x)) k k'
GoesBy Made (due.Pass n) k k' = HasTried Made (Phaser n (Pass k.number)) k k' ⊎ HasClaimed Made n k k'
GoesBy Made (due.Register c p) k k' = HasTried Made (Phaser p.phaser (Reg k.number c p.mode)) k k'
GoesBy Made (due.Spawn c f) k k' = HasNoted Made (Finish f (Spawned c)) k k'
GoesBy Made (due.DropChild n c) k k' = ((c == k.number) ≡ false) × Made n (Drop c) × (k' ≡ k)
GoesBy Made (due.Leave n) k k' = HasNoted Made (Phaser n (Drop k.number)) k k'
GoesBy Made (due.Shut f) k k' = ((f == 0) ≡ false) × HasNoted Made (Finish f Shut) k k'
GoesBy Made (due.End f) k k' = ⊥
GoesBy Made due.Close k k' = ⊥

-- it goes on by what comes next of it, and of its child that was never born, if it has one
abbrev pub HasGoneOn : (ℕ → Step → Type 0) → Option Known → Known → Known → Type 0
HasGoneOn Made child k k' = (d : Due) × IsNext d k child × GoesBy Made d k k'

-- this holds of the task that goes on, if it does
abbrev pub IfGoesOn : {T : Type 0} → Result (Option T) Refusal → (T → Type 0) → Type 0
IfGoesOn result Holds = IfOk result (λ next. IfSome next Holds)

-- ---- what a call was answered

-- if an item comes back from a signal of phaser n, its task knows what it knew; if it has signalled, it has noted that
abbrev pub IsOfSignal : {T : Type 0} → (T → Known) → Known → (ℕ → Step → Type 0) → ℕ → Step → SignalAnswer T → Type 0
IsOfSignal known k Made n s (Signalled x) = (known x ≡ noted (Phaser n s) k) × Made n s
IsOfSignal known k Made n s Held = Unit {0}
IsOfSignal known k Made n s (NoSignal x r) = known x ≡ k

-- the same of a pass by t, which may claim a single
abbrev pub IsOfPass : {T : Type 0} → (T → Known) → Known → (ℕ → Step → Type 0) → ℕ → ℕ → PassAnswer T ℕ → Type 0
IsOfPass known k Made n t (Passed x p) = (known x ≡ noted (Phaser n (Pass t)) k) × Made n (Pass t)
IsOfPass known k Made n t (Claimed x m) = (known x ≡ k) × Made n (Claim t)
IsOfPass known k Made n t Parked = Unit {0}
IsOfPass known k Made n t (Refused x r) = known x ≡ k
