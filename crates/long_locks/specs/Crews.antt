-- What the workers of a crew show of what they saw.
use Rattle.std.specs.Prelude.{◌≡◌, true, List, All}
use Rattle.phase_model.specs.declared.history.Event.{Event}
use Rattle.phase_model.specs.declared.terms.Terms.{Terms}
use Rattle.phase_model.specs.Rules.{is_legal}
use Rattle.phaser_core.specs.LongLife.{long_limits}
use Rattle.told_history.specs.Tails.{IsTail}

-- the gift says this of what its worker has seen of a phaser with these terms, which begins the history
abbrev pub HasSeen : {G : Type 0} → (G → Terms → List Event → Type 0) → Terms → List Event → G → Type 0
HasSeen Shows t history x = (seen : List Event) × Shows x t seen × IsTail seen history

-- the phaser with these terms has a legal history, and each gift says this of a beginning of it
pub record AreSeen {G : Type 0} (Shows : G → Terms → List Event → Type 0) (t : Terms) (given : List G) : Type 0 where
  pub history : List Event
  pub legal : is_legal long_limits t history ≡ true
  pub shown : All (λ x. ∥ HasSeen Shows t history x ∥₁) given
