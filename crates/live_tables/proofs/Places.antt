-- What stands at a place of a list.
use Rattle.std.proofs.Common.{◌≡◌, ℕ, zero, suc, ◌<◌, List, [], ◌∷◌, length, IfSome, slice_get, sym, subst, arith}
use lib.ListN.{get_or}

pub at_place : {A : Type 0} (P : A → Type 0) (xs : List A) (i : ℕ) (x : A) → i < length xs → x ≡ get_or xs i x → IfSome (slice_get xs i) P → P x
at_place P [] i x within is holds = absurd (omega (arith, within))
at_place P (y ∷ ys) zero x within is holds = subst P (sym is) holds
at_place P (y ∷ ys) (suc i) x within is holds = at_place P ys i x (omega (arith, within)) is holds
