-- What a slot's log tells of the phasers that were in the slot, one after another.
use Rattle.std.specs.Prelude.{ℕ, ◌≡◌, ◌<◌, ◌≤◌, ◌==◌, ◌&&◌, if◌then◌else◌, false, List, [], ◌∷◌, Option, Some, None, Result, Ok, Err}
use Rattle.phase_modes.specs.declared.refusal.Refusal.{Refusal}
use Rattle.phase_modes.specs.Lists.{is_empty}
use Rattle.phase_model.specs.declared.call.Call.{Call}
use Rattle.phase_model.specs.declared.history.Event.{Event}
use Rattle.phase_model.specs.declared.terms.Terms.{Terms}
use Rattle.phase_model.specs.Laws.{IsLegal}
use Rattle.phase_model.specs.Replies.{done_result}
use Rattle.phase_model.specs.Rules.{Story, no_terms}
use Rattle.phase_model.specs.Tasks.{live_count}
use Rattle.told_history.specs.declared.wide.LongEvent.{LongEvent}
use Rattle.told_history.specs.Stories.{IsAnswered}
use Rattle.told_history.specs.Wide.{event_of}
use Rattle.phaser_core.specs.LongLife.{long_limits}
use Rattle.long_locks.specs.Told.{numbered}
use Rattle.live_tables.specs.declared.noted.SlotNoted.{SlotNoted}

-- a beginning of a slot's log: the log's name, and the entries, the newest first
pub record SlotSight : Type 0 where
  pub log : ℕ
  pub items : List SlotNoted

-- the events of phaser k
abbrev pub past_of : ℕ → List SlotNoted → List Event
past_of k [] = []
past_of k (x ∷ xs) = if x.number == k then event_of x.event ∷ past_of k xs else past_of k xs

-- what phaser k was made with, as its first event tells it
abbrev pub terms_of : ℕ → List SlotNoted → Terms
terms_of k [] = no_terms
terms_of k (x ∷ xs) = if (x.number == k) && is_empty (past_of k xs) then x.terms else terms_of k xs

-- the story of phaser k
abbrev pub told_of : ℕ → List SlotNoted → Story
told_of k xs = record { limits = long_limits; terms = terms_of k xs; past = past_of k xs }

-- that of each phaser is legal
abbrev pub AreLegal : List SlotNoted → Type 0
AreLegal xs = (k : ℕ) → IsLegal (told_of k xs)

-- the log with this event of phaser n, if there is one
abbrev pub noted : ℕ → Terms → Option LongEvent → List SlotNoted → List SlotNoted
noted n terms (Some e) xs = record { number = n; terms = terms; event = e } ∷ xs
noted n terms None xs = xs

-- phaser n is there: nothing was done on a later one yet, and nobody is registered on another one
pub record IsHere (n : ℕ) (xs : List SlotNoted) (s : Story) : Type 0 where
  pub told : told_of n xs ≡ s
  pub made : is_empty (past_of n xs) ≡ false
  pub legal : AreLegal xs
  pub later : (k : ℕ) → n < k → past_of k xs ≡ []
  pub gone : (k : ℕ) → (n == k) ≡ false → live_count (past_of k xs) ≡ 0

-- phaser n is the next one: nothing was done on it yet, nor on a later one, and nobody is registered on any
pub record IsNext (n : ℕ) (xs : List SlotNoted) : Type 0 where
  pub legal : AreLegal xs
  pub later : (k : ℕ) → n ≤ k → past_of k xs ≡ []
  pub gone : (k : ℕ) → live_count (past_of k xs) ≡ 0

-- it was the call with some number, which is answered if it is done
abbrev pub IsNumbered : Result ℕ Refusal → (ℕ → Call) → Story → Story → Type 0
IsNumbered answer call seen now = (n : ℕ) × IsAnswered (λ _ r. answer ≡ numbered n (done_result r)) (call n) seen now

-- that it was done, or what it was refused by
abbrev pub without_value : {A : Type 0} → Result A Refusal → Result (Unit {0}) Refusal
without_value (Ok x) = Ok tt
without_value (Err e) = Err e
