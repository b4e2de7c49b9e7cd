-- What holds of every finish: laws over whole histories and whole lists of calls.
use Rattle.std.specs.Prelude.{ℕ, ◌≡◌, ◌<◌, ◌↔◌, true, List, [], ◌∷◌, ◌++◌, Ok, Contains}
use Rattle.finish_core.specs.declared.event.FinishEvent.{FinishEvent}
use Rattle.finish_core.specs.declared.event.FinishEvent.TheVariants.{Opened, Spawned, Ended, Shut}
use Rattle.finish_core.specs.Finish.{FinishStory, fresh, may_shut, is_allowed, is_legal_finish}
use Rattle.finish_core.specs.Replies.{reply, after}

-- the story after calls that are made one after another, the first of the list first
abbrev pub after_all : FinishStory → List FinishEvent → FinishStory
after_all s [] = s
after_all s (e ∷ es) = after_all (after s e (reply s.tasks s.past e)) es

-- whatever calls are made on a fresh finish, its history is legal
abbrev pub RepliesKeepLegal : Type 0
RepliesKeepLegal = (tasks : ℕ) (calls : List FinishEvent)
    → is_legal_finish tasks (after_all (fresh tasks) calls).past ≡ true

-- a call is done exactly if its event is allowed
abbrev pub DoneWhereAllowed : Type 0
DoneWhereAllowed = (tasks : ℕ) (h : List FinishEvent) (e : FinishEvent)
    → (reply tasks h e ≡ Ok tt) ↔ (is_allowed tasks h e ≡ true)

-- the finish may be shut exactly if the call that shuts it is done
abbrev pub ShutWhereItMay : Type 0
ShutWhereItMay = (tasks : ℕ) (h : List FinishEvent) → (may_shut h ≡ true) ↔ (reply tasks h Shut ≡ Ok tt)

-- after each task's spawning comes its end
abbrev pub EachSpawnedEnds : List FinishEvent → Type 0
EachSpawnedEnds h = (later before : List FinishEvent) (t : ℕ) → h ≡ later ++ Spawned t ∷ before
    → Contains later (Ended t)

-- if it was shut, nothing came after, and by then each task spawned in it had ended
abbrev pub IsAwaited : List FinishEvent → Type 0
IsAwaited h = (later before : List FinishEvent) → h ≡ later ++ Shut ∷ before
    → (later ≡ []) × EachSpawnedEnds before

-- each legal history that was shut is so
abbrev pub ShutAwaitsAll : Type 0
ShutAwaitsAll = (tasks : ℕ) (h : List FinishEvent) → is_legal_finish tasks h ≡ true → IsAwaited h

-- each event stands where it should: the opening first and alone, each task spawned once under a number that
-- fits, and ended once, after it was spawned
pub record IsOrderly (tasks : ℕ) (h : List FinishEvent) : Type 0 where
  pub first_opens : (later : List FinishEvent) (e : FinishEvent) → h ≡ later ++ e ∷ []
      → (t : ℕ) × (e ≡ Opened t)
  pub opens_first : (later before : List FinishEvent) (t : ℕ) → h ≡ later ++ Opened t ∷ before → before ≡ []
  pub number_fits : (later before : List FinishEvent) (t : ℕ) → h ≡ later ++ Spawned t ∷ before → t < tasks
  pub spawned_once : (later before : List FinishEvent) (t : ℕ) → h ≡ later ++ Spawned t ∷ before
      → ¬ Contains before (Spawned t)
  pub was_spawned : (later before : List FinishEvent) (t : ℕ) → h ≡ later ++ Ended t ∷ before
      → Contains before (Spawned t)
  pub ended_once : (later before : List FinishEvent) (t : ℕ) → h ≡ later ++ Ended t ∷ before
      → ¬ Contains before (Ended t)

-- each legal history is so
abbrev pub LegalIsOrderly : Type 0
LegalIsOrderly = (tasks : ℕ) (h : List FinishEvent) → is_legal_finish tasks h ≡ true → IsOrderly tasks h
