-- Where the phasers are that a task holds, and what it has seen of them.
use Rattle.std.specs.Prelude.{ℕ, ◌≡◌, ◌==◌, List, Option, Some, find, IfSome}
use Rattle.phase_model.specs.Rules.{Story}
use Rattle.told_history.specs.Stories.{GoesOn}
use Rattle.live_tables.specs.declared.noted.SlotNoted.{SlotNoted}
use Rattle.live_tables.specs.declared.slot.At.{At}
use Rattle.live_tables.specs.Slots.{told_of}

-- where a phaser is; by which number it knows the task; and what the task has seen of its slot's log
pub record Spot : Type 0 where
  pub at : At
  pub me : ℕ
  pub items : List SlotNoted

abbrev pub spot : At → ℕ → List SlotNoted → Spot
spot at me items = record { at = at; me = me; items = items }

-- what was seen of the phaser
abbrev pub story_of : Spot → Story
story_of p = told_of p.at.number p.items

-- the one in this slot
abbrev pub in_slot : ℕ → List Spot → Option Spot
in_slot n ps = find (λ p. p.at.slot == n) ps

-- it is one of these, and no less was seen of its phaser
abbrev pub IsFurther : Spot → List Spot → Type 0
IsFurther p ps =
    (old : Spot) × (in_slot p.at.slot ps ≡ Some old) × (p.at ≡ old.at) × (p.me ≡ old.me) × GoesOn (story_of old) (story_of p)

-- each was there before, and no less was seen of its phaser
abbrev pub HaveGoneOn : List Spot → List Spot → Type 0
HaveGoneOn old new =
    (n : ℕ) → IfSome (in_slot n new) (λ p. (q : Spot) × (in_slot n old ≡ Some q) × GoesOn (story_of q) (story_of p))
