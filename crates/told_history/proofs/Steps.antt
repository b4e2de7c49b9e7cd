-- What a log allows. Assumes `Logic`.
use Rattle.std.proofs.Common.{ℕ, List, [], ◌∷◌, map, reverse, sym, ap, ◌∙◌}
use Rattle.std.proofs.lemmas.List.{reverse-append, map-append}
use mathlib.Core.List.{IsPrefix}
use seplogic.Ra.Ura.{Ura}
use base.Stored.{Coded}
use base.Logic.{SProp, ent, ex, emp, via}
use types.Logic.{Logic, sem}
use types.Owned.{basic}
use types.Growing.{latest_new, latest_grows}
use Rattle.told_history.specs.Owned.{logs, kept, whole_owns}

-- what is kept goes on where it ended
one_more : {A : Type 0} (cv : Coded A) (x : A) (xs : List A) → IsPrefix (kept cv.code xs) (kept cv.code (x ∷ xs))
one_more cv x xs = (
  cv.code x ∷ [],
  sym (ap (map cv.code) (reverse-append (x ∷ []) xs) ∙ map-append cv.code (reverse xs) (x ∷ [])),
)

module _ {M : Type 1} {𝓤 : Ura M} (𝓛 : Logic 𝓤) {A : Type 0} (cv : Coded A) where
  open 𝓛 use {H}

  abbrev whole : ℕ → List A → SProp 𝓤
  whole η xs = sem 𝓛 (whole_owns cv.code η xs)

  -- a log begins, under some name
  pub begins : ent 𝓤 (emp 𝓤) (H.⇛ (ex 𝓤 (λ (η : ℕ). whole η [])))
  unfolding whole_owns
  begins = via 𝓤 _ (latest_new logs 𝓛 []) (basic 𝓛 _)

  -- it grows by an entry
  pub grows : (η : ℕ) (xs : List A) (x : A) → ent 𝓤 (whole η xs) (H.⇛ (whole η (x ∷ xs)))
  unfolding whole_owns
  grows η xs x = via 𝓤 _ (latest_grows logs 𝓛 η (kept cv.code xs) (kept cv.code (x ∷ xs)) (one_more cv x xs)) (basic 𝓛 _)
