-- A phaser that lies in a table is changed for another.
use Rattle.std.proofs.Common.{◌≡◌, ℕ, List, [], ◌∷◌, ap}
use Rattle.atomic_table.specs.Table.{rest}
use Rattle.level_phaser.specs.declared.phaser.LevelPhaser.{LevelPhaser}

pub traded : (held : List (ℕ × LevelPhaser)) (x y : LevelPhaser) → held ≡ (0, x) ∷ []
    → (d : LevelPhaser) × ((0, y) ∷ rest held ≡ (0, d) ∷ []) × (d.phaser ≡ y.phaser) × (d.tasks ≡ y.tasks)
traded held x y is = (y, ap (λ l. (0, y) ∷ rest l) is, (λ _. y.phaser), λ _. y.tasks)
