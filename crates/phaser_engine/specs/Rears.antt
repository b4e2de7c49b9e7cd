-- Where the hindmost of many stand, by how many stand at each phase.
use Rattle.std.specs.Prelude.{ℕ, ◌≡◌, ◌≢◌, ◌+◌, ◌<◌, ◌≤◌, Option, Some, None}
use Rattle.phaser_engine.specs.declared.rear.Rear.{Rear}

-- so many stand at this phase and nobody behind it; if that is none, nobody stands anywhere
pub record IsRear (counts : ℕ → ℕ) (rear : Rear) : Type 0 where
  pub here : counts rear.least ≡ rear.count
  pub behind : (n : ℕ) → n < rear.least → counts n ≡ 0
  pub nobody : rear.count ≡ 0 → (n : ℕ) → counts n ≡ 0

-- one more stands at the phase
pub record HasEntered (phase : ℕ) (before after : ℕ → ℕ) : Type 0 where
  pub more : after phase ≡ before phase + 1
  pub others : (n : ℕ) → n ≢ phase → after n ≡ before n

-- one has left the phase, perhaps for a later one
pub record HasLeft (phase : ℕ) (before after : ℕ → ℕ) : Type 0 where
  pub fewer : after phase + 1 ≡ before phase
  pub behind : (n : ℕ) → n < phase → after n ≡ before n

-- nobody stands at the phase or behind it
abbrev pub NobodyUpTo : ℕ → (ℕ → ℕ) → Type 0
NobodyUpTo phase counts = (n : ℕ) → n ≤ phase → counts n ≡ 0

-- somebody stands at this phase and nobody behind it; or nobody stands anywhere
abbrev pub IsLeast : Option ℕ → (ℕ → ℕ) → Type 0
IsLeast None counts = (n : ℕ) → counts n ≡ 0
IsLeast (Some l) counts = (0 < counts l) × ((n : ℕ) → n < l → counts n ≡ 0)
