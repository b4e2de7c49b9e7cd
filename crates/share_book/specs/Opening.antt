-- That the parts of a run's seven ledgers belong together.
use Rattle.std.specs.Prelude.{◌≡◌, ℕ}
use Rattle.share_book.specs.declared.blanks.Blanks.{Blanks}

-- the blanks have the names of these seven ledgers
abbrev pub IsNamed : Blanks → ℕ → ℕ → ℕ → ℕ → ℕ → ℕ → ℕ → Type 0
IsNamed b events_p events_w up_p up_w down_p down_w room =
    (b.events_by_phaser.name ≡ events_p)
    × (b.events_by_worker.name ≡ events_w)
    × (b.up_by_phaser.name ≡ up_p)
    × (b.up_by_worker.name ≡ up_w)
    × (b.down_by_phaser.name ≡ down_p)
    × (b.down_by_worker.name ≡ down_w)
    × (b.room.name ≡ room)

-- and as many parts as they have
abbrev pub IsParted : Blanks → ℕ → ℕ → ℕ → ℕ → ℕ → ℕ → ℕ → Type 0
IsParted b events_p events_w up_p up_w down_p down_w room =
    (b.events_by_phaser.parts ≡ events_p)
    × (b.events_by_worker.parts ≡ events_w)
    × (b.up_by_phaser.parts ≡ up_p)
    × (b.up_by_worker.parts ≡ up_w)
    × (b.down_by_phaser.parts ≡ down_p)
    × (b.down_by_worker.parts ≡ down_w)
    × (b.room.parts ≡ room)

-- of each kind's ledger these are all parts: there are as many of them
abbrev pub AreAllParts : ℕ → ℕ → ℕ → ℕ → Type 0
AreAllParts n events up down = (n ≡ events) × (n ≡ up) × (n ≡ down)
