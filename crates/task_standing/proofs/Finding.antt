-- The first of a list that passes a test, and the first of what a plan has still to make.
use Rattle.std.proofs.Common.{◌≡◌, ℕ, zero, suc, Bool, List, [], ◌∷◌, ◌++◌, map, drop, Option, Some, None, refl, sym, ap, ◌∙◌, inl, inr}
use Rattle.std.specs.Prelude.{find, filter, slice_get}
use Rattle.std.specs.Option.{option_map}
use Rattle.std.proofs.lemmas.Bool.{cases_Bool}

abbrev or_else : {X : Type 0} → Option X → Option X → Option X
or_else (Some x) o = Some x
or_else None o = o

-- the first event of a list that is mapped, and of one with others behind it
at_first : {X E : Type 0} (f : X → E) (xs : List X) (n : ℕ) (es : List E)
    → slice_get (map f (drop n xs) ++ es) 0 ≡ or_else (option_map f (slice_get xs n)) (slice_get es 0)
at_first f [] zero es = refl
at_first f [] (suc n) es = refl
at_first f (x ∷ xs) zero es = refl
at_first f (x ∷ xs) (suc n) es = at_first f xs n es

pub later_some : {X E : Type 0} (f : X → E) (xs : List X) (n : ℕ) (es : List E) (x : X) → slice_get xs n ≡ Some x
    → Some (f x) ≡ slice_get (map f (drop n xs) ++ es) 0
later_some f xs n es x e = sym (at_first f xs n es ∙ ap (λ o. or_else (option_map f o) (slice_get es 0)) e)

pub later_none : {X E : Type 0} (f : X → E) (xs : List X) (n : ℕ) (es : List E) → slice_get xs n ≡ None
    → slice_get es 0 ≡ slice_get (map f (drop n xs) ++ es) 0
later_none f xs n es e = sym (at_first f xs n es ∙ ap (λ o. or_else (option_map f o) (slice_get es 0)) e)

-- the same with none behind it
alone : {X E : Type 0} (f : X → E) (xs : List X) (n : ℕ) → slice_get (map f (drop n xs)) 0 ≡ option_map f (slice_get xs n)
alone f [] zero = refl
alone f [] (suc n) = refl
alone f (x ∷ xs) zero = refl
alone f (x ∷ xs) (suc n) = alone f xs n

pub alone_some : {X E : Type 0} (f : X → E) (xs : List X) (n : ℕ) (x : X) → slice_get xs n ≡ Some x
    → Some (f x) ≡ slice_get (map f (drop n xs)) 0
alone_some f xs n x e = sym (alone f xs n ∙ ap (λ o. option_map f o) e)

pub alone_none : {X E : Type 0} (f : X → E) (xs : List X) (n : ℕ) → slice_get xs n ≡ None
    → None ≡ slice_get (map f (drop n xs)) 0
alone_none f xs n e = sym (alone f xs n ∙ ap (λ o. option_map f o) e)

-- the same of those that pass a test: the first of them is the first that passes
at_passing : {X E : Type 0} (f : X → E) (p : X → Bool) (xs : List X) (es : List E)
    → slice_get (map f (filter p xs) ++ es) 0 ≡ or_else (option_map f (find p xs)) (slice_get es 0)
at_passing f p [] es = refl
at_passing f p (x ∷ xs) es =
    elim (cases_Bool (p x)) [ inl e ↦ rw e refl | inr e ↦ rw e (at_passing f p xs es) ]

pub passing_some : {X E : Type 0} (f : X → E) (p : X → Bool) (xs : List X) (es : List E) (x : X) → find p xs ≡ Some x
    → Some (f x) ≡ slice_get (map f (filter p xs) ++ es) 0
passing_some f p xs es x e = sym (at_passing f p xs es ∙ ap (λ o. or_else (option_map f o) (slice_get es 0)) e)

pub passing_none : {X E : Type 0} (f : X → E) (p : X → Bool) (xs : List X) (es : List E) → find p xs ≡ None
    → slice_get es 0 ≡ slice_get (map f (filter p xs) ++ es) 0
passing_none f p xs es e = sym (at_passing f p xs es ∙ ap (λ o. or_else (option_map f o) (slice_get es 0)) e)
