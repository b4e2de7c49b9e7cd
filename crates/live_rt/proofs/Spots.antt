-- The places of a task's phasers, as the code keeps them and as contracts see them.
use Rattle.std.proofs.Common.{ℕ, ◌≡◌, ◌==◌, ◌<◌, Bool, true, false, inl, inr, List, [], ◌∷◌, ◌++◌, length, map, filter, set, get_or, Option, Some, None, refl, sym, ap, ap₂, cond, subst, ◌∙◌}
use Rattle.std.specs.Prelude.{IfSome, find, not, slice_get}
use Rattle.std.specs.List.{position_or_len}
use Rattle.std.specs.Option.{option_map, option_or}
use Rattle.std.proofs.Math.Seq.{map-set_same}
use Rattle.std.proofs.lemmas.Bool.{cases_Bool, eqb-true, eq-eqb, true≢false}
use Rattle.std.proofs.lemmas.Option.{slice_get_read}
use Rattle.std.proofs.lemmas.List.Folds.{find_at, find-set, find_past, find-append}
use Rattle.std.proofs.lemmas.List.Sums.{passes_at_first}
use Rattle.live_rt.specs.inner.Places.{Spot, in_slot}

-- two numbers differ in either order
differ : (m n : ℕ) → n == m ≡ false → m == n ≡ false
differ m n other =
    elim (cases_Bool (m == n)) [
      | inl same ↦ absurd (true≢false (sym (eq-eqb n m (sym (eqb-true m n same))) ∙ other))
      | inr e ↦ e
    ]

module _ {X : Type 0} where
  -- what is found among what f gives is what f gives of what is found
  pub found_of : (xs : List X) (f : X → Spot) (n : ℕ) → in_slot n (map f xs) ≡ option_map f (find (λ x. (f x).at.slot == n) xs)
  found_of [] f n = refl
  found_of (x ∷ xs) f n =
      elim (cases_Bool ((f x).at.slot == n)) [ inl e ↦ rw e refl | inr e ↦ rw e (found_of xs f n) ]

  -- none is there
  pub found_none : (xs ls : List X) (f : X → Spot) (n : ℕ) (old : List Spot) → map f xs ≡ old → ls ≡ xs
      → find (λ x. (f x).at.slot == n) ls ≡ None → in_slot n old ≡ None
  found_none xs ls f n old is same none =
      ap (in_slot n) (sym is) ∙ found_of xs f n
      ∙ ap (λ l. option_map f (find (λ x. (f x).at.slot == n) l)) (sym same) ∙ ap (option_map f) none

  -- the first one there
  pub found_some : (xs ls : List X) (f : X → Spot) (n : ℕ) (old : List Spot) (i : ℕ) (x : X) → map f xs ≡ old → ls ≡ xs
      → (i < length ls) × (i ≡ position_or_len (λ x. (f x).at.slot == n) ls) → x ≡ get_or xs i x
      → Some (f x) ≡ in_slot n old
  found_some xs ls f n old i x is same at read =
      let here : (i < length xs) × (i ≡ position_or_len (λ x. (f x).at.slot == n) xs) =
      subst (λ l. (i < length l) × (i ≡ position_or_len (λ x. (f x).at.slot == n) l)) same at in
      sym (ap (in_slot n) (sym is) ∙ found_of xs f n
      ∙ ap (option_map f) (find_at (λ x. (f x).at.slot == n) xs ∙ ap (slice_get xs) (sym here.1) ∙ slice_get_read xs (length xs) i x refl here.0 read))

  -- one is put instead of one that looks the same
  pub set_same : (xs : List X) (f : X → Spot) (i : ℕ) (x y : X) (old : List Spot) → map f xs ≡ old → x ≡ get_or xs i x
      → f y ≡ f x → map f (set xs i y) ≡ old
  set_same xs f i x y old is read same = map-set_same f xs i y x (same ∙ ap f read) ∙ is

  -- one is put at the first place in its slot
  pub set_here : (xs ls : List X) (f : X → Spot) (i : ℕ) (y : X) → ls ≡ xs
      → (i < length ls) × (i ≡ position_or_len (λ x. (f x).at.slot == (f y).at.slot) ls)
      → in_slot (f y).at.slot (map f (set xs i y)) ≡ Some (f y)
  set_here xs ls f i y same at =
      let here : (i < length xs) × (i ≡ position_or_len (λ x. (f x).at.slot == (f y).at.slot) xs) =
      subst (λ l. (i < length l) × (i ≡ position_or_len (λ x. (f x).at.slot == (f y).at.slot) l)) same at in
      found_of (set xs i y) f (f y).at.slot
      ∙ ap (option_map f) (find-set (λ x. (f x).at.slot == (f y).at.slot) xs i y here.1 here.0 (eq-eqb (f y).at.slot (f y).at.slot refl))

  pub set_others : (xs ls : List X) (f : X → Spot) (i : ℕ) (y : X) (old : List Spot) → map f xs ≡ old → ls ≡ xs
      → (i < length ls) × (i ≡ position_or_len (λ x. (f x).at.slot == (f y).at.slot) ls)
      → (n : ℕ) → n == (f y).at.slot ≡ false → in_slot n (map f (set xs i y)) ≡ in_slot n old
  set_others xs ls f i y old is same at n other =
      let p : X → Bool = λ x. (f x).at.slot == (f y).at.slot in
      let here : (i < length xs) × (i ≡ position_or_len p xs) =
      subst (λ l. (i < length l) × (i ≡ position_or_len p l)) same at in
      let passes : p (get_or xs i y) ≡ true =
      subst (λ (k : ℕ). p (get_or xs k y) ≡ true) (sym here.1)
      (passes_at_first p xs y (subst (λ (k : ℕ). k < length xs) here.1 here.0)) in
      let y_fails : (f y).at.slot == n ≡ false = differ (f y).at.slot n other in
      let fails : (f (get_or xs i y)).at.slot == n ≡ false =
      ap (λ (m : ℕ). m == n) (eqb-true (f (get_or xs i y)).at.slot (f y).at.slot passes) ∙ y_fails in
      found_of (set xs i y) f n
      ∙ ap (option_map f) (find_past (λ x. (f x).at.slot == n) xs i y y fails y_fails)
      ∙ sym (found_of xs f n) ∙ ap (in_slot n) is

  -- one is put behind the others
  pub push_here : (xs ls news : List X) (f : X → Spot) (y : X) → ls ≡ xs → news ≡ xs ++ y ∷ []
      → find (λ x. (f x).at.slot == (f y).at.slot) ls ≡ None → in_slot (f y).at.slot (map f news) ≡ Some (f y)
  push_here xs ls news f y same pushed none =
      let p : X → Bool = λ x. (f x).at.slot == (f y).at.slot in
      let no : find p xs ≡ None = ap (find p) (sym same) ∙ none in
      let yes : p y ≡ true = eq-eqb (f y).at.slot (f y).at.slot refl in
      let last : find p (y ∷ []) ≡ Some y = ap (λ (b : Bool). cond b (Some y) None) yes in
      ap (λ l. in_slot (f y).at.slot (map f l)) pushed
      ∙ found_of (xs ++ y ∷ []) f (f y).at.slot
      ∙ ap (option_map f) (find-append p xs (y ∷ []) ∙ ap₂ option_or no last)

  pub push_others : (xs news : List X) (f : X → Spot) (y : X) (old : List Spot) → map f xs ≡ old → news ≡ xs ++ y ∷ []
      → (n : ℕ) → n == (f y).at.slot ≡ false → in_slot n (map f news) ≡ in_slot n old
  push_others xs news f y old is pushed n other =
      ap (λ l. in_slot n (map f l)) pushed ∙ behind xs ∙ ap (in_slot n) is
    where
      fails : (f y).at.slot == n ≡ false
      fails = differ (f y).at.slot n other

      behind : (zs : List X) → in_slot n (map f (zs ++ y ∷ [])) ≡ in_slot n (map f zs)
      behind [] = rw fails refl
      behind (z ∷ zs) = elim (cases_Bool ((f z).at.slot == n)) [ inl e ↦ rw e refl | inr e ↦ rw e (behind zs) ]

  -- those in one slot are taken away
  gone : (xs : List X) (f : X → Spot) (n : ℕ) → in_slot n (map f (filter (λ x. not ((f x).at.slot == n)) xs)) ≡ None
  gone [] f n = refl
  gone (x ∷ xs) f n =
      elim (cases_Bool ((f x).at.slot == n)) [ inl e ↦ rw e (gone xs f n) | inr e ↦ rw (e, e) (gone xs f n) ]

  stay : (xs : List X) (f : X → Spot) (n m : ℕ) → m == n ≡ false
      → in_slot m (map f (filter (λ x. not ((f x).at.slot == n)) xs)) ≡ in_slot m (map f xs)
  stay [] f n m other = refl
  stay (x ∷ xs) f n m other =
      elim (cases_Bool ((f x).at.slot == n)) [
        | inl e ↦ let fails : (f x).at.slot == m ≡ false =
            ap (λ (k : ℕ). k == m) (eqb-true (f x).at.slot n e) ∙ differ n m other in
            rw (e, fails) (stay xs f n m other)
        | inr e ↦ elim (cases_Bool ((f x).at.slot == m)) [ inl h ↦ rw (e, h) refl | inr h ↦ rw (e, h) (stay xs f n m other) ]
      ]

  pub remove_here : (xs news : List X) (f : X → Spot) (n : ℕ) → news ≡ filter (λ x. not ((f x).at.slot == n)) xs
      → in_slot n (map f news) ≡ None
  remove_here xs news f n kept = ap (λ l. in_slot n (map f l)) kept ∙ gone xs f n

  pub remove_others : (xs news : List X) (f : X → Spot) (n : ℕ) (old : List Spot) → map f xs ≡ old
      → news ≡ filter (λ x. not ((f x).at.slot == n)) xs
      → (m : ℕ) → m == n ≡ false → in_slot m (map f news) ≡ in_slot m old
  remove_others xs news f n old is kept m other =
      ap (λ l. in_slot m (map f l)) kept ∙ stay xs f n m other ∙ ap (in_slot m) is

-- what holds of nothing
pub of_none : {X : Type 0} (o : Option X) (P : X → Type 0) → o ≡ None → IfSome o P
of_none o P none = subst (λ o. IfSome o P) (sym none) tt
