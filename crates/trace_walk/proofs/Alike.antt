-- Lists of different lengths are not the same.
use Rattle.std.proofs.Common.{suc, ◌≡◌, false, List, [], ◌∷◌, length, refl, sym, ap}
use Rattle.std.proofs.lemmas.Bool.{and_right}
use Rattle.phase_modes.specs.declared.phased.Pair.{Pair}
use Rattle.phase_model.specs.declared.op.Op.{Op}
use Rattle.trace_walk.specs.Follows.{same_ops, same_pairs}

ops_apart : (xs ys : List Op) → (length xs ≡ length ys → ⊥) → same_ops xs ys ≡ false
ops_apart [] [] h = absurd (h refl)
ops_apart [] (y ∷ ys) h = refl
ops_apart (x ∷ xs) [] h = refl
ops_apart (x ∷ xs) (y ∷ ys) h = and_right _ _ (ops_apart xs ys (λ e. h (ap suc e)))

pairs_apart : (xs ys : List Pair) → (length xs ≡ length ys → ⊥) → same_pairs xs ys ≡ false
pairs_apart [] [] h = absurd (h refl)
pairs_apart [] (y ∷ ys) h = refl
pairs_apart (x ∷ xs) [] h = refl
pairs_apart (x ∷ xs) (y ∷ ys) h = and_right _ _ (pairs_apart xs ys (λ e. h (ap suc e)))

pub ops-differ : (xs ys : List Op) → (length xs ≡ length ys → ⊥) → false ≡ same_ops xs ys
ops-differ xs ys h = sym (ops_apart xs ys h)

pub pairs-differ : (xs ys : List Pair) → (length xs ≡ length ys → ⊥) → false ≡ same_pairs xs ys
pairs-differ xs ys h = sym (pairs_apart xs ys h)
