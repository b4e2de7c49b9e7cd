-- Reading things of one kind one after the other, as a loop does.
use Rattle.std.proofs.Common.{◌≡◌, ℕ, ◌+◌, ◌≤◌, ◌<◌, nat_le, List, [], ◌∷◌, ◌++◌, Option, Some, None, Result, Ok, Err, false, refl, sym, ap, ◌∙◌, append_assoc, arith, length, drop, get_or, add-one, drop-cons, append-nil, length-append}
use Rattle.std.proofs.lemmas.Bool.{leb-true, le-leb, false_from_ne_true}
use Rattle.std.proofs.lemmas.List.{drop_all}
use Rattle.serde_json.specs.Data.{Data}
use Rattle.serde_json.specs.declared.value.Value.{Value}
use Rattle.serde_json.specs.View.{view, items_view}
use Rattle.job_script.specs.Words.{and_rest, all_in, at_most, numbered_then, numbered_in}

not_le : (a b : ℕ) → b < a → nat_le a b ≡ false
not_le a b less = false_from_ne_true (nat_le a b) (λ e. omega (arith, leb-true a b e, less))

-- what was read before, and what is still read
abbrev pub front_with : {A : Type 0} → List A → Option (List A) → Option (List A)
front_with front None = None
front_with front (Some xs) = Some (front ++ xs)

abbrev pub front_then : {A : Type 0} → List A → Result (List A) ℕ → Result (List A) ℕ
front_then front (Ok xs) = Ok (front ++ xs)
front_then front (Err p) = Err p

regroup : {A : Type 0} (front : List A) (x : A) (r : Option (List A)) → front_with front (and_rest (Some x) r) ≡ front_with (front ++ x ∷ []) r
regroup front x None = refl
regroup front x (Some xs) = ap Some (simp append_assoc)

-- nothing was read before
pub none_before : {A : Type 0} (r : Option (List A)) → front_with [] r ≡ r
none_before None = refl
none_before (Some xs) = refl

renumber : {A : Type 0} (front : List A) (n : ℕ) (x : A) (r : Result (List A) ℕ) → front_then front (numbered_then n (Some x) r) ≡ front_then (front ++ x ∷ []) r
renumber front n x (Ok xs) = ap Ok (simp append_assoc)
renumber front n x (Err p) = refl

module _ {A : Type 0} (one : Data → Option A) where
  -- one turn: the first of the items left
  turn : (vs : List Value) (i : ℕ) (v : Value) → i < length vs → all_in one (items_view (drop i vs)) ≡ and_rest (one (view (get_or vs i v))) (all_in one (items_view (drop (i + 1) vs)))
  unfolding all_in
  turn vs i v h = rw (add-one i, drop-cons vs i v) refl

  pub goes_on : (front : List A) (vs : List Value) (i : ℕ) (v : Value) (x : A) (total : Option (List A)) → i < length vs → one (view (get_or vs i v)) ≡ Some x
      → front_with front (all_in one (items_view (drop i vs))) ≡ total → front_with (front ++ x ∷ []) (all_in one (items_view (drop (i + 1) vs))) ≡ total
  goes_on front vs i v x total lt h so_far = sym (ap (front_with front) (turn vs i v lt) ∙ rw h (regroup front x _)) ∙ so_far

  pub stops : (front : List A) (vs : List Value) (i : ℕ) (v : Value) (total : Option (List A)) → i < length vs → one (view (get_or vs i v)) ≡ None
      → front_with front (all_in one (items_view (drop i vs))) ≡ total → total ≡ None
  stops front vs i v total lt h so_far = sym so_far ∙ ap (front_with front) (turn vs i v lt) ∙ rw h refl

  long : (most : ℕ) (front xs : List A) (x : A) → most ≤ length front → at_most most (Some (front ++ x ∷ xs)) ≡ None
  long most front xs x full =
      let more : nat_le (length (front ++ x ∷ xs)) most ≡ false = not_le (length (front ++ x ∷ xs)) most (omega (arith, full, length-append front (x ∷ xs))) in
      rw more refl

  too_many : (most : ℕ) (front : List A) (x : A) (r : Option (List A)) → most ≤ length front → at_most most (front_with front (and_rest (Some x) r)) ≡ None
  too_many most front x None full = refl
  too_many most front x (Some xs) full = long most front xs x full

  -- one more than there may be
  pub overflows : (most : ℕ) (front : List A) (vs : List Value) (i : ℕ) (v : Value) (x : A) (total : Option (List A)) → i < length vs → one (view (get_or vs i v)) ≡ Some x → most ≤ length front
      → front_with front (all_in one (items_view (drop i vs))) ≡ total → at_most most total ≡ None
  overflows most front vs i v x total lt h full so_far =
      ap (at_most most) (sym so_far ∙ (ap (front_with front) (turn vs i v lt) ∙ ap (λ o. front_with front (and_rest o (all_in one (items_view (drop (i + 1) vs))))) h))
      ∙ too_many most front x (all_in one (items_view (drop (i + 1) vs))) full

  pub is_done : (most : ℕ) (front : List A) (vs : List Value) (i : ℕ) (total : Option (List A)) → length vs ≤ i → length front ≤ most
      → front_with front (all_in one (items_view (drop i vs))) ≡ total → at_most most total ≡ Some front
  unfolding all_in
  is_done most front vs i total le few so_far =
      let whole : total ≡ Some front = sym so_far ∙ rw (drop_all i vs le) (ap Some (append-nil front)) in
      rw (whole, le-leb (length front) most few) refl

  -- the same with numbers

  numbered_turn : (n : ℕ) (vs : List Value) (i : ℕ) (v : Value) → i < length vs
      → numbered_in one n (items_view (drop i vs)) ≡ numbered_then n (one (view (get_or vs i v))) (numbered_in one (n + 1) (items_view (drop (i + 1) vs)))
  unfolding numbered_in
  numbered_turn n vs i v h = rw (add-one i, drop-cons vs i v) refl

  pub numbered_goes_on : (front : List A) (vs : List Value) (i : ℕ) (v : Value) (x : A) (total : Result (List A) ℕ) → i < length vs → one (view (get_or vs i v)) ≡ Some x
      → front_then front (numbered_in one (i + 1) (items_view (drop i vs))) ≡ total → front_then (front ++ x ∷ []) (numbered_in one (i + 1 + 1) (items_view (drop (i + 1) vs))) ≡ total
  numbered_goes_on front vs i v x total lt h so_far =
      sym (ap (front_then front) (numbered_turn (i + 1) vs i v lt) ∙ rw h (renumber front (i + 1) x _)) ∙ so_far

  pub numbered_stops : (front : List A) (vs : List Value) (i : ℕ) (v : Value) (total : Result (List A) ℕ) → i < length vs → one (view (get_or vs i v)) ≡ None
      → front_then front (numbered_in one (i + 1) (items_view (drop i vs))) ≡ total → total ≡ Err (i + 1)
  numbered_stops front vs i v total lt h so_far = sym so_far ∙ ap (front_then front) (numbered_turn (i + 1) vs i v lt) ∙ rw h refl

  pub numbered_is_done : (front : List A) (vs : List Value) (i : ℕ) (total : Result (List A) ℕ) → length vs ≤ i
      → front_then front (numbered_in one (i + 1) (items_view (drop i vs))) ≡ total → total ≡ Ok front
  unfolding numbered_in
  numbered_is_done front vs i total le so_far = sym so_far ∙ rw (drop_all i vs le) (ap Ok (append-nil front))
