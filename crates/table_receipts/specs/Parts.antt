-- What the logs that a table hands out tell of its parts.
use Rattle.std.specs.Prelude.{ℕ, ◌≡◌, ◌+◌, ◌<◌, List, [], ◌∷◌, length, Some, slice_get}
use Rattle.phase_model.specs.Laws.{IsLegal}
use Rattle.phase_model.specs.Rules.{Story}
use Rattle.trace_model.specs.Run.{Entry}
use Rattle.trace_model.specs.Told.{phaser_told}
use Rattle.table_receipts.specs.Logs.{Sight}
use Rattle.told_history.specs.Stories.{GoesOn}

-- the log of phaser n has its name, and the part tells the story that the log tells, which is legal, each event with
-- its ticket
pub record IsLogged (names : ℕ → ℕ) (n : ℕ) (part : List Entry) (log : Sight) : Type 0 where
  pub tickets : List ℕ
  pub named : log.log ≡ names n
  pub told : part ≡ phaser_told n log.story tickets
  pub drawn : length tickets ≡ length log.story.past
  pub legal : IsLegal log.story

-- those of the phasers from n on
abbrev pub AreLogged : (ℕ → ℕ) → ℕ → List (List Entry) → List Sight → Type 0
AreLogged names n [] [] = Unit {0}
AreLogged names n (p ∷ ps) (x ∷ xs) = IsLogged names n p x × AreLogged names (n + 1) ps xs
AreLogged names n _ _ = ⊥

-- part n tells this story, which is legal, each event with its ticket
abbrev pub IsToldAt : ℕ → Story → List (List Entry) → Type 0
IsToldAt n s parts = (tickets : List ℕ) × (slice_get parts n ≡ Some (phaser_told n s tickets)) × (length tickets ≡ length s.past) × IsLegal s

-- the gift says this of what its worker has seen of each of the phasers, which begins the phaser's story
abbrev pub HasShown : {G : Type 0} → (G → (ℕ → Story) → Type 0) → ℕ → (ℕ → Story) → G → Type 0
HasShown Shows phasers stories x = (seen : ℕ → Story) × Shows x seen × ((n : ℕ) → n < phasers → GoesOn (seen n) (stories n))
