-- What the first event that is due says of a plan, where it is a finish's.
use Rattle.std.proofs.Common.{◌≡◌, ℕ, true, not, List, [], ◌∷◌, ◌++◌, map, refl}
use Rattle.phase_modes.specs.Lists.{is_empty}
use Rattle.finish_core.specs.declared.event.FinishEvent.{FinishEvent}
use Rattle.world_model.specs.declared.event.WorldEvent.{WorldEvent}
use Rattle.world_model.specs.declared.event.WorldEvent.TheVariants.{Finish}

-- steps on phasers before it: there are none
pub no_steps : {X : Type 0} (g : X → WorldEvent) (xs : List X) (rest tail : List WorldEvent) (f : ℕ) (e : FinishEvent) → ((x : X) (ds : List WorldEvent) → g x ∷ ds ≡ Finish f e ∷ tail → ⊥)
    → map g xs ++ rest ≡ Finish f e ∷ tail → (xs ≡ []) × (rest ≡ Finish f e ∷ tail)
no_steps g [] rest tail f e other h = (refl, h)
no_steps g (x ∷ xs) rest tail f e other h = absurd (other x (map g xs ++ rest) h)

-- one event alone
pub alone : (d e : WorldEvent) (tail : List WorldEvent) → d ∷ [] ≡ e ∷ tail → (d ≡ e) × (tail ≡ [])
alone d e tail h = (cc, cc)

pub is_alone : (xs : List ℕ) → not (is_empty xs) ≡ true → xs ≡ [] → ⊥
is_alone xs h k = cc
