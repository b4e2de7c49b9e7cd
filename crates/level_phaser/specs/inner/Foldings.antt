-- How far the last has written the folds.
use Rattle.std.specs.Prelude.{◌≡◌, ℕ, ◌+◌, ◌≤◌, Bool, List, [], ◌∷◌, length}
use Rattle.atomic_table.specs.Table.{Me}
use Rattle.told_history.specs.Tails.{IsTail}
use Rattle.phase_model.specs.declared.history.Event.{Event}
use Rattle.phase_model.specs.declared.call.Call.{Call}
use Rattle.phase_model.specs.Replies.{Reply}
use Rattle.level_phaser.specs.declared.view.SeatView.{SeatView}
use Rattle.level_phaser.specs.declared.view.Role.{Role}
use Rattle.level_phaser.specs.declared.view.Role.TheVariants.{Last}
use Rattle.level_phaser.specs.Changes.{IsKept}
use Rattle.level_phaser.specs.Views.{with_role}
use Rattle.level_phaser.specs.inner.Board.{AllTold}
use Rattle.level_phaser.specs.inner.Folds.{AreFolds}

-- nothing has changed but what the role knows
abbrev pub HasOnly : {S : Type 0} → SeatView S → SeatView S → Type 0
HasOnly {S} v w = (role : Role S) × (w ≡ with_role v role)

module _ {S : Type 0} (events : S → List Event) (registered : ℕ → S → Bool) (count : S → ℕ) (width : S → ℕ)
    (replies : S → Call → Reply) (ready : ℕ → S → Type 0) where
  -- the round was made, with so many accumulators, and the first n folds of it are written
  pub record Folding (w n phase : ℕ) (m : Me S (SeatView S)) : Type 0 where
    pub begun : S
    pub found : List ℕ
    pub turned : S
    pub now : S
    pub role : m.0.role ≡ Last begun found
    pub has : m.1 ≡ (0, now) ∷ []
    pub long : length found ≡ 2080
    pub at : m.0.phase + 1 ≡ phase
    pub told : AllTold events registered count width ready found begun turned
    pub stood : ready phase turned
    pub stands : ready phase now
    pub kept : IsKept events registered count width turned now
    pub seen : IsTail m.0.seen (events begun)
    pub wide : width turned ≡ w
    pub folds : AreFolds events registered replies ready n found turned

  -- all of them are
  abbrev pub HasFolded : ℕ → Me S (SeatView S) → Type 0
  HasFolded phase m = (w : ℕ) × Folding w w phase m × (w ≤ 4)
