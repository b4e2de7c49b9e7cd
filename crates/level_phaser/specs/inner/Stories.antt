-- What a join and a round leave, to those who share the phaser.
use Rattle.std.specs.Prelude.{◌≡◌, ℕ, ◌+◌, true, false, List, [], ◌∷◌, ◌++◌}
use Rattle.told_history.specs.Tails.{IsTail}
use Rattle.phase_model.specs.Tasks.{is_live}
use Rattle.phase_model.specs.Rules.{Story}
use Rattle.level_phaser.specs.Deeds.{deeds, deeds_of, with_signal}
use Rattle.level_phaser.specs.RoundLaws.{StandLevel}
use Rattle.level_phaser.specs.LevelPhasers.{IsReady}

-- t is registered now and wasn't before, the others have done no more, and all stand level in phase p
pub record Joined (p t : ℕ) (ts : List ℕ) (s s' : Story) : Type 0 where
  pub longer : IsTail s.past s'.past
  pub terms : s'.terms ≡ s.terms
  pub fresh : is_live t s.past ≡ false
  pub there : is_live t s'.past ≡ true
  pub did : deeds_of t s'.past ≡ deeds p []
  pub others : (u : ℕ) → is_live u s.past ≡ true → (is_live u s'.past ≡ true)
      × (deeds_of u s'.past ≡ deeds_of u s.past)
  pub stand : StandLevel p (ts ++ t ∷ []) s'

-- each task has signalled once more, and all stand level in the phase after p
pub record Turned (p : ℕ) (ts : List ℕ) (s s' : Story) : Type 0 where
  pub longer : IsTail s.past s'.past
  pub terms : s'.terms ≡ s.terms
  pub ready : IsReady (p + 1) ts s'
  pub each : (u : ℕ) → is_live u s.past ≡ true
      → (is_live u s'.past ≡ true) × (deeds_of u s'.past ≡ with_signal (deeds_of u s.past))
