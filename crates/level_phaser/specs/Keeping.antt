-- How a table is opened to the tasks of a value, and closed.
use Rattle.std.specs.Prelude.{◌≡◌, ℕ, Bool, true, ◌&&◌, not, List, [], ◌∷◌}
use Rattle.atomic_table.specs.Table.{Me}
use Rattle.told_history.specs.Tails.{IsTail}
use Rattle.phase_model.specs.declared.history.Event.{Event}
use Rattle.level_phaser.specs.declared.view.SeatView.{SeatView}
use Rattle.level_phaser.specs.declared.view.Role.TheVariants.{Gone}
use Rattle.level_phaser.specs.RoundLaws.{is_among}
use Rattle.level_phaser.specs.Views.{view_of}

-- none of these tasks stands among them twice
abbrev pub are_apart : List ℕ → Bool
are_apart [] = true
are_apart (t ∷ ts) = not (is_among t ts) && are_apart ts

-- the seat has this value
abbrev pub Holds : {S : Type 0} → S → Me S (SeatView S) → Type 0
Holds {S} x me = me.1 ≡ (0, x) ∷ []

-- all tasks of the value stand level in this phase. The keeper has seen its history, and no more
abbrev pub HasOpened : {S : Type 0} → (S → List Event) → (S → ℕ) → (ℕ → S → Type 0) → S → ℕ → ℕ → SeatView S → Type 0
HasOpened {S} events width ready y phase w v =
    ready phase y × (w ≡ width y) × (v ≡ view_of [] phase Gone (events y) 0 w)

-- the keeper has a value now, in which all stand level in this phase, in a history that goes on from what it had seen
abbrev pub HasClosed : {S : Type 0} → (S → List Event) → (ℕ → S → Type 0) → ℕ → SeatView S → Me S (SeatView S) → Type 0
HasClosed {S} events ready phase v me = (x : S) × Holds x me × ready phase x × IsTail v.seen (events x)
