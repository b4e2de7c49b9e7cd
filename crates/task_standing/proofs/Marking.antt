-- A list that is gone through, and changed place by place.
use Rattle.std.proofs.Common.{◌≡◌, ℕ, zero, suc, ◌+◌, ◌<◌, List, [], ◌∷◌, ◌++◌, map, take, drop, set, get_or, length, refl, ap, subst, ◌∙◌, arith}

changed_next : {X : Type 0} (f : X → X) (ys : List X) (i : ℕ) (d : X) → i < length ys
    → set (map f (take i ys) ++ drop i ys) i (f (get_or (map f (take i ys) ++ drop i ys) i d))
    ≡ map f (take (suc i) ys) ++ drop (suc i) ys
changed_next f [] i d h = absurd (omega (arith, h))
changed_next f (y ∷ ys) zero d h = refl
changed_next f (y ∷ ys) (suc i) d h = ap (λ zs. f y ∷ zs) (changed_next f ys i d (omega (arith, h)))

pub changed_at : {X : Type 0} (f : X → X) (xs ys : List X) (i : ℕ) (d : X) → i < length ys
    → xs ≡ map f (take i ys) ++ drop i ys
    → set xs i (f (get_or xs i d)) ≡ map f (take (i + 1) ys) ++ drop (i + 1) ys
changed_at f xs ys i d h e =
    let next : suc i ≡ i + 1 = omega arith in
    ap (λ zs. set zs i (f (get_or zs i d))) e
    ∙ subst (λ j. set (map f (take i ys) ++ drop i ys) i (f (get_or (map f (take i ys) ++ drop i ys) i d))
    ≡ map f (take j ys) ++ drop j ys) next (changed_next f ys i d h)
