-- How far the last has told what the rows show.
use Rattle.std.specs.Prelude.{◌*◌, ◌≡◌, ℕ, Bool, true, List, [], ◌∷◌, take, if◌then◌else◌, slice_index, ◌+◌, length}
use Rattle.atomic_table.specs.Table.{Me}
use Rattle.told_history.specs.Tails.{IsTail}
use Rattle.phase_model.specs.declared.history.Event.{Event}
use Rattle.level_phaser.specs.declared.view.SeatView.{SeatView}
use Rattle.level_phaser.specs.declared.view.Role.TheVariants.{Last}
use Rattle.level_phaser.specs.Deeds.{deeds_of, with_sends}
use Rattle.level_phaser.specs.RoundLaws.{is_among}
use Rattle.level_phaser.specs.inner.Board.{sent_in}

-- what the row of a task shows by these words, if the task is among these
abbrev pub told_of : List ℕ → List ℕ → ℕ → List Event
told_of ws ts task = if is_among task ts then sent_in task (slice_index ws (32 + 8 * task)) else []

module _ {S : Type 0} (events : S → List Event) (registered : ℕ → S → Bool) (count : S → ℕ) (width : S → ℕ)
    (tasks : S → List ℕ) (ready : ℕ → S → Type 0) where
  -- the first n tasks have told what their rows show by these words
  pub record SoFar (n : ℕ) (ws : List ℕ) (x z : S) : Type 0 where
    pub longer : IsTail (events x) (events z)
    pub counts : count z ≡ count x
    pub widths : width z ≡ width x
    pub same : tasks z ≡ tasks x
    pub each : (t : ℕ) → registered t x ≡ true → (registered t z ≡ true)
        × (deeds_of t (events z) ≡ with_sends (told_of ws (take n (tasks x)) t) (deeds_of t (events x)))

  -- the same of the seat of the last
  pub record Tells (n phase : ℕ) (m : Me S (SeatView S)) : Type 0 where
    pub begun : S
    pub found : List ℕ
    pub now : S
    pub role : m.0.role ≡ Last begun found
    pub has : m.1 ≡ (0, now) ∷ []
    pub long : length found ≡ 2080
    pub at : m.0.phase ≡ phase
    pub stands : ready phase now
    pub seen : IsTail m.0.seen (events begun)
    pub so_far : SoFar n found begun now

  -- each task has told what its row shows, to the seat of the last
  abbrev pub HasToldAll : ℕ → Me S (SeatView S) → Type 0
  HasToldAll phase m = (n : ℕ) × (k : Tells n phase m) × (length (tasks k.begun) ≡ n)
