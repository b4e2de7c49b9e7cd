-- What the part of a phaser tells.
use Rattle.std.specs.Prelude.{ℕ, ◌≡◌, ◌+◌, List, [], ◌∷◌, length}
use Rattle.phase_model.specs.Amounts.{Amount, totals}
use Rattle.phase_model.specs.Laws.{IsLegal}
use Rattle.phase_model.specs.Rules.{Story}
use Rattle.trace_model.specs.Run.{Entry}
use Rattle.trace_model.specs.Told.{phaser_told}

-- the part of phaser n: the events of a legal history in order, each with its ticket; they add up to these sums
pub record IsPhaserPart (n : ℕ) (part : List Entry) (sums : Amount) : Type 0 where
  pub story : Story
  pub tickets : List ℕ
  pub told : part ≡ phaser_told n story tickets
  pub drawn : length tickets ≡ length story.past
  pub legal : IsLegal story
  pub posted : sums ≡ totals story.past

-- those of the phasers from n on, and what the phasers' books add up to
abbrev pub ArePhaserParts : ℕ → List (List Entry) → List Amount → Type 0
ArePhaserParts n [] [] = Unit {0}
ArePhaserParts n (p ∷ ps) (a ∷ sums) = IsPhaserPart n p a × ArePhaserParts (n + 1) ps sums
ArePhaserParts n _ _ = ⊥
