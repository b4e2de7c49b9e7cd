-- What the books show.
use Rattle.std.specs.Prelude.{ℕ, List, ◌*◌, ◌≤◌}
use Rattle.std.specs.List.{sum_by}
use Rattle.phase_model.specs.Amounts.{Amount}
use Rattle.share_book.specs.declared.gathering.Totals.{Totals}

-- all phasers' books together: of how many phasers,
-- the room they have left for events, and what they add up to
pub record Account : Type 0 where
  pub phasers : ℕ
  pub room : ℕ
  pub totals : Amount

-- one phaser's book: its number, the room it has left for events, and what its events add up to
pub record Entry : Type 0 where
  pub number : ℕ
  pub room : ℕ
  pub totals : Amount

-- several totals together
abbrev pub sum : List Amount → Amount
sum xs = record {
  events = sum_by (λ a. a.events) xs;
  up = sum_by (λ a. a.up) xs;
  down = sum_by (λ a. a.down) xs;
}

-- what these phasers' books add up to
abbrev pub sum_of_books : List Entry → Amount
sum_of_books bs = record {
  events = sum_by (λ b. b.totals.events) bs;
  up = sum_by (λ b. b.totals.up) bs;
  down = sum_by (λ b. b.totals.down) bs;
}

-- the totals before the first event
abbrev pub nothing : Amount
nothing = record { events = 0; up = 0; down = 0 }

-- of no kind is a more than b
abbrev pub IsWithin : Amount → Amount → Type 0
IsWithin a b = (a.events ≤ b.events) × (a.up ≤ b.up) × (a.down ≤ b.down)

-- the books of n phasers before the first event, with room for 65,536 events of each phaser
abbrev pub fresh_books : ℕ → Account
fresh_books n = record { phasers = n; room = 65536 * n; totals = nothing }

-- totals as an amount
abbrev pub amount_of : Totals → Amount
amount_of t = record { events = t.events; up = t.up; down = t.down }
