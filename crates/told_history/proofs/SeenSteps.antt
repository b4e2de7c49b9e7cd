-- What a log and its beginnings allow. Assumes `Logic`.
use Rattle.std.proofs.Common.{ℕ, ◌⊎◌, List, [], ◌∷◌}
use seplogic.Ra.Ura.{Ura}
use base.Fraction.{full_share}
use base.Stored.{Gv, Coded}
use base.Logic.{SProp, ent, sep, guard, via, guard_i, guard_e}
use base.Growing.{Least, at_least}
use types.Logic.{Logic, sem}
use types.Growing.{latest_shows, latest_bounds, at_least_dup, at_least_join}
use types.Kit.{‵, ◌⊛◌, some, given, ◌$◌, ◌∵◌, !, qed, move, drop, split, pick, learn, check, done, use1, use2}
use Rattle.told_history.specs.Owned.{logs, kept, whole_owns}
use Rattle.told_history.specs.Seen.{front_owns}
use Rattle.told_history.specs.Tails.{IsTail}
use Rattle.told_history.proofs.Tails.{tail_out, one_of_both}

module _ {M : Type 1} {𝓤 : Ura M} (𝓛 : Logic 𝓤) {A : Type 0} (cv : Coded A) where
  open 𝓛 use {H}

  abbrev Pr : Type 2
  Pr = SProp 𝓤

  abbrev whole : ℕ → List A → Pr
  whole η xs = sem 𝓛 (whole_owns cv.code η xs)

  abbrev seen : ℕ → List A → Pr
  seen η xs = sem 𝓛 (front_owns cv.code η xs)

  -- all of it can be seen
  pub shows : (η : ℕ) (xs : List A) → ent 𝓤 (whole η xs) (sep 𝓤 (whole η xs) (seen η xs))
  unfolding whole_owns front_owns
  shows η xs = latest_shows logs 𝓛 full_share η (kept cv.code xs) (kept cv.code xs) (logs.same (kept cv.code xs))

  -- what was seen is a beginning of it
  pub bounds : (η : ℕ) (xs ys : List A) → ent 𝓤 (sep 𝓤 (whole η xs) (seen η ys)) (guard 𝓤 (IsTail ys xs) (sep 𝓤 (whole η xs) (seen η ys)))
  unfolding whole_owns front_owns
  bounds η xs ys = let P : Pr = sep 𝓤 (whole η xs) (seen η ys) in
      via 𝓤 _ (latest_bounds logs 𝓛 full_share η (kept cv.code xs) (kept cv.code ys))
      (guard_e 𝓤 (logs.le (kept cv.code ys) (kept cv.code xs)) P (λ p. guard_i 𝓤 (IsTail ys xs) P (tail_out cv ys xs p)))

  -- what was seen can be copied
  pub twice : (η : ℕ) (xs : List A) → ent 𝓤 (seen η xs) (sep 𝓤 (seen η xs) (seen η xs))
  unfolding front_owns
  twice η xs = at_least_dup logs 𝓛 η (kept cv.code xs)

  -- of two beginnings one begins the other
  pub agree : (η : ℕ) (xs ys : List A) → ent 𝓤 (sep 𝓤 (seen η xs) (seen η ys)) (guard 𝓤 (IsTail ys xs ⊎ IsTail xs ys) (seen η xs))
  unfolding front_owns
  agree η xs ys = let a : List Gv = kept cv.code xs in let b : List Gv = kept cv.code ys in
      qed 𝓛 (‵ (front_owns cv.code η xs) ∷ ‵ (front_owns cv.code η ys) ∷ []) ∵
      use1 𝓛 (‵ (front_owns cv.code η xs) ⊛ ‵ (front_owns cv.code η xs)) (twice η xs) $ split ! $ move ! (0 ∷ 2 ∷ []) $
      use2 𝓛 (some (λ (c : List Gv). given (Least logs.le a b c) (‵ (at_least logs η c)))) (at_least_join logs 𝓛 η a b) $ pick ! (λ c. learn ! (λ least. drop ! $
      check ! (one_of_both cv ys xs c least.1 least.0) $ done !))
