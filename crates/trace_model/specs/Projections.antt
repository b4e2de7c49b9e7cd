-- Whose an entry of a trace is, and the entries that one has in it.
use Rattle.std.specs.Prelude.{◌≡◌, ◌≢◌, ℕ, ◌==◌, Bool, false, List}
use Rattle.std.specs.List.{All, AllZip, AllPairs, filter}
use Rattle.trace_model.specs.declared.event.TracedEvent.{TracedEvent}
use Rattle.trace_model.specs.declared.event.TracedEvent.TheVariants.{Phaser, Finish, Begin, Refuse, Fail}
use Rattle.trace_model.specs.Run.{Entry}

-- the phaser of this number, the finish of this number, or the log of the task of this number
pub data Whose : Type 0 where
  phaser : ℕ → Whose
  finish : ℕ → Whose
  log : ℕ → Whose

-- whose an event is
abbrev pub whose : TracedEvent → Whose
whose (Phaser n s) = phaser n
whose (Finish f e) = finish f
whose (Begin t b) = log t
whose (Refuse t a n) = log t
whose (Fail t n) = log t

-- both are the same one
abbrev pub is_same : Whose → Whose → Bool
is_same (phaser n) (phaser m) = n == m
is_same (finish f) (finish g) = f == g
is_same (log t) (log u) = t == u
is_same _ _ = false

-- the entries of one owner, in their order
abbrev pub projection : Whose → List Entry → List Entry
projection w es = filter (λ e. is_same w (whose e.1)) es

-- each of these entries is of this owner
abbrev pub AreOf : Whose → List Entry → Type 0
AreOf w es = All (λ e. whose e.1 ≡ w) es

-- none of them is
abbrev pub AreNotOf : Whose → List Entry → Type 0
AreNotOf w es = All (λ e. whose e.1 ≢ w) es

-- each part has entries of its owner alone, and no two parts have the same owner
pub record HaveOwners (owners : List Whose) (parts : List (List Entry)) : Type 0 where
  pub own : AllZip (λ w part. AreOf w part) owners parts
  pub apart : AllPairs (λ w v. w ≢ v) owners
