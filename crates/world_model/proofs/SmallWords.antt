-- Small words on tests and lists that many proofs need.
use Rattle.std.proofs.Common.{◌≡◌, ℕ, Bool, true, false, ◌==◌, not, List, [], ◌∷◌, refl}
use Rattle.std.proofs.lemmas.Bool.{eq-eqb, true≢false, not-false}
use Rattle.phase_modes.specs.Lists.{is_empty}
use Rattle.world_model.specs.declared.event.WorldEvent.{WorldEvent}

pub eq_self : (n : ℕ) → (n == n) ≡ true
eq_self n = eq-eqb n n refl

pub empty_is : (ds : List WorldEvent) → is_empty ds ≡ true → ds ≡ []
empty_is [] k = refl
empty_is (x ∷ xs) k = absurd cc

-- two lists that are the same have the same first event, and the same rest
pub cons_parts : (x y : WorldEvent) (xs ys : List WorldEvent) → x ∷ xs ≡ y ∷ ys → (x ≡ y) × (xs ≡ ys)
cons_parts x y xs ys h = (cc, cc)

pub head_same : (d e : WorldEvent) (xs ys : List WorldEvent) → d ∷ xs ≡ e ∷ ys → d ≡ e
head_same d e xs ys h = cc
