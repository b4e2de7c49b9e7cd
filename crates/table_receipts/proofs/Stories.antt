-- What was seen of the phasers, one by one.
use Rattle.std.proofs.Common.{◌≡◌, ◌≢◌, ◌⊎◌, inl, inr, ℕ, ◌+◌, zero, suc, ◌<◌, ◌≤◌, ◌==◌, Bool, true, false, List, [], ◌∷◌, ◌++◌, length, refl, sym, ap, ◌∙◌, subst, arith}
use lib.ListN.{get_or}
use Rattle.std.proofs.lemmas.Bool.{false≢true, eq-eqb, eqb-true, cases_lt}
use Rattle.std.proofs.lemmas.Bool.Decides.{eqb_tells}
use Rattle.std.proofs.Math.Dec.{eqb}
use Rattle.std.specs.List.{slice_set}
use Rattle.phase_model.specs.Rules.{Story}
use Rattle.table_receipts.specs.Logs.{Sight}
use Rattle.told_history.specs.Stories.{GoesOn}
use Rattle.told_history.proofs.Goes.{goes_itself}
use Rattle.table_receipts.specs.Seen.{story_at, IsNamed, HasSeenMore}

pub set_here : (xs : List Sight) (i : ℕ) (x : Sight) → i < length xs → story_at (slice_set xs i x) i ≡ x.story
set_here [] i x within = absurd (omega (arith, within))
set_here (y ∷ ys) zero x within = refl
set_here (y ∷ ys) (suc i) x within = set_here ys i x (omega (arith, within))

apart : (xs : List Sight) (i : ℕ) (x : Sight) (n : ℕ) → (n ≡ i → ⊥) → story_at (slice_set xs i x) n ≡ story_at xs n
apart [] i x n other = refl
apart (y ∷ ys) zero x zero other = absurd (other refl)
apart (y ∷ ys) zero x (suc n) other = refl
apart (y ∷ ys) (suc i) x zero other = refl
apart (y ∷ ys) (suc i) x (suc n) other = apart ys i x n (λ e. other (ap suc e))

pub set_apart : (xs : List Sight) (i : ℕ) (x : Sight) (n : ℕ) → n == i ≡ false → story_at (slice_set xs i x) n ≡ story_at xs n
set_apart xs i x n other = apart xs i x n (λ e. false≢true (sym other ∙ eq-eqb n i e))

-- one more at the end, under its name
pub named_more : (names : ℕ → ℕ) (xs : List Sight) (x : Sight) → IsNamed names xs → x.log ≡ names (length xs) → IsNamed names (xs ++ x ∷ [])
named_more names [] x all last zero = last
named_more names [] x all last (suc n) = tt
named_more names (y ∷ ys) x all last zero = all zero
named_more names (y ∷ ys) x all last (suc n) = named_more (λ k. names (suc k)) ys x (λ k. all (suc k)) last n

pub at_same : (xs : List Sight) (i : ℕ) (x : Sight) → i < length xs → x ≡ get_or xs i x → x.story ≡ story_at xs i
at_same [] i x within is = absurd (omega (arith, within))
at_same (y ∷ ys) zero x within is = ap (λ (z : Sight). z.story) is
at_same (y ∷ ys) (suc i) x within is = at_same ys i x (omega (arith, within)) is

-- what a call says of what was seen before and after, of the phaser of this number
pub told_at : (P : Story → Story → Type 0) (xs ys : List Sight) (number phaser : ℕ) (a b : Story)
    → number ≡ phaser → a ≡ story_at xs number → story_at ys number ≡ b → P a b → P (story_at xs phaser) (story_at ys phaser)
told_at P xs ys number phaser a b place before now holds =
    subst (λ (n : ℕ). P (story_at xs n) (story_at ys n)) place
    (subst (λ (v : Story). P v (story_at ys number)) before (subst (λ (v : Story). P a v) (sym now) holds))

pub seen_more : (xs zs ys : List Sight) (number phaser : ℕ) (a b : Story)
    → zs ≡ xs → number ≡ phaser → a ≡ story_at xs number → story_at ys number ≡ b
    → ((n : ℕ) → n == number ≡ false → story_at ys n ≡ story_at zs n)
    → GoesOn a b → HasSeenMore phaser (λ n. story_at xs n) (λ n. story_at ys n)
seen_more xs zs ys number phaser a b kept place before now others goes = (λ n. by_number n (n == phaser) refl, λ n other. same n other)
  where
    same : (n : ℕ) → n == phaser ≡ false → story_at ys n ≡ story_at xs n
    same n other = others n (subst (λ (k : ℕ). n == k ≡ false) (sym place) other) ∙ ap (λ (l : List Sight). story_at l n) kept

    by_number : (n : ℕ) (b : Bool) → n == phaser ≡ b → GoesOn (story_at xs n) (story_at ys n)
    by_number n true is = subst (λ (k : ℕ). GoesOn (story_at xs k) (story_at ys k)) (sym (eqb-true n phaser is)) (told_at GoesOn xs ys number phaser a _ place before now goes)
    by_number n false is = subst (λ (v : Story). GoesOn (story_at xs n) v) (sym (same n is)) (goes_itself (story_at xs n))

-- what was written back as it was changes nothing
pub unset : (xs : List Sight) (i : ℕ) (y x : Sight) → i < length xs → x ≡ get_or xs i x → y ≡ x → slice_set xs i y ≡ xs
unset [] i y x within is same = absurd (omega (arith, within))
unset (z ∷ zs) zero y x within is same = ap (λ (w : Sight). w ∷ zs) (same ∙ is)
unset (z ∷ zs) (suc i) y x within is same = ap (λ (l : List Sight). z ∷ l) (unset zs i y x (omega (arith, within)) is same)

-- what holds of so many phasers, and of the next one
pub same_more : (P : ℕ → Type 0) (k : ℕ) → ((n : ℕ) → n < k → P n) → P k → (n : ℕ) → n < k + 1 → P n
same_more P k before next n within = go (eqb_tells n k)
  where
    go : ((eqb n k ≡ true) × (n ≡ k)) ⊎ ((eqb n k ≡ false) × (n ≢ k)) → P n
    go (inl same) = subst P (sym same.1) next
    go (inr other) = before n (omega (arith, within, other.1))

pub begins_more : (xs ys : List Sight) (k : ℕ) → ((n : ℕ) → n < k → GoesOn (story_at xs n) (story_at ys n)) → GoesOn (story_at xs k) (story_at ys k) → (n : ℕ) → n < k + 1 → GoesOn (story_at xs n) (story_at ys n)
begins_more xs ys k before next = same_more (λ n. GoesOn (story_at xs n) (story_at ys n)) k before next

-- one more at the end is what was seen of the next phaser, and all before it stay
pub push_here : (xs : List Sight) (x : Sight) → story_at (xs ++ x ∷ []) (length xs) ≡ x.story
push_here [] x = refl
push_here (y ∷ ys) x = push_here ys x

pub push_before : (xs : List Sight) (x : Sight) (n : ℕ) → n < length xs → story_at (xs ++ x ∷ []) n ≡ story_at xs n
push_before [] x n within = absurd (omega (arith, within))
push_before (y ∷ ys) x zero within = refl
push_before (y ∷ ys) x (suc n) within = push_before ys x n (omega (arith, within))

-- past the end nothing was seen
pub none_past : (xs : List Sight) (n : ℕ) → length xs ≤ n → story_at xs n ≡ story_at [] n
none_past [] n past = refl
none_past (y ∷ ys) zero past = absurd (omega (arith, past))
none_past (y ∷ ys) (suc n) past = none_past ys n (omega (arith, past))

-- copies of so many, and of the next one
pub copies_more : (xs ys zs : List Sight) (x : Sight) → ((n : ℕ) → n < length xs → story_at xs n ≡ story_at ys n)
    → zs ≡ xs ++ x ∷ [] → x.story ≡ story_at ys (length xs) → (n : ℕ) → n < length xs + 1 → story_at zs n ≡ story_at ys n
copies_more xs ys zs x before is next =
    subst (λ (l : List Sight). (n : ℕ) → n < length xs + 1 → story_at l n ≡ story_at ys n) (sym is)
    (same_more (λ n. story_at (xs ++ x ∷ []) n ≡ story_at ys n) (length xs)
    (λ n lt. push_before xs x n lt ∙ before n lt) (push_here xs x ∙ next))

-- copies of all
pub copies_all : (xs ys : List Sight) → length xs ≡ length ys → ((n : ℕ) → n < length xs → story_at xs n ≡ story_at ys n) → (n : ℕ) → story_at xs n ≡ story_at ys n
copies_all xs ys long each n = go (cases_lt n (length xs))
  where
    go : (n < length xs) ⊎ (length xs ≤ n) → story_at xs n ≡ story_at ys n
    go (inl lt) = each n lt
    go (inr ge) = none_past xs n ge ∙ sym (none_past ys n (omega (arith, ge, long)))
