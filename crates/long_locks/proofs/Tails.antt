-- A beginning of a log is one of its events too.
use Rattle.std.proofs.Common.{◌⊎◌, inl, inr, List, map, ap, ◌∙◌}
use Rattle.std.proofs.lemmas.List.{map-append}
use Rattle.told_history.specs.Tails.{IsTail}

pub mapped : {A B : Type 0} (f : A → B) (xs ys : List A) → IsTail xs ys → IsTail (map f xs) (map f ys)
mapped f xs ys t = (map f t.0, ap (map f) t.1 ∙ map-append f t.0 xs)

pub either_mapped : {A B : Type 0} (f : A → B) (xs ys : List A) → IsTail xs ys ⊎ IsTail ys xs → IsTail (map f xs) (map f ys) ⊎ IsTail (map f ys) (map f xs)
either_mapped f xs ys (inl t) = inl (mapped f xs ys t)
either_mapped f xs ys (inr t) = inr (mapped f ys xs t)
