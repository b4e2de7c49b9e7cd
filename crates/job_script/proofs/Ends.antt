-- Where the acts of a list end.
use Rattle.std.proofs.Common.{◌≡◌, ⊎_elim, suc-le-suc, le_of_suc-le-suc, ℕ, zero, suc, ◌+◌, ◌-◌, ◌*◌, ◌%◌, ◌<◌, ◌≤◌, min, leb, Some, None, slice_get, le_of_lt, mod-eq_of_lt, mul-zero, true, false, true≢false, List, [], ◌∷◌, ◌++◌, length, get_or, refl, sym, ap, ◌∙◌, subst, arith, suc-mul, zero-mul}
use Rattle.std.proofs.lemmas.Bool.{le-leb, and_parts, and_from, cases_lt}
use Rattle.std.proofs.lemmas.Option.{none-some, same_Some, slice_get_past, slice_get_within, get_or_from_slice_get}
use native.Mathlib.Nat.{min-eq_left, min-eq_right}
use Rattle.std.specs.List.Sorted.{IsNonDecreasing}
use Rattle.job_script.specs.declared.head.Head.{Head}
use Rattle.job_script.specs.declared.head.Head.TheVariants.{Repeat}
use Rattle.job_script.specs.declared.stored.Item.{Item}
use Rattle.job_script.specs.Acts.{Act, Acts, no_acts, act, with_act, copies, flat, written, written_length, flat_length, too_many, is_short_spawn, depth}
use Rattle.job_script.specs.inner.Ends.{ends_from, start_of}
use Rattle.job_script.specs.inner.Views.{acts_view, are_short}
use Rattle.job_script.proofs.Places.{past_all, found, flat-length, copied_at}

-- ---- the ends don't fall

pub from_start : (xs : Acts) (s k d : ℕ) → k < length (ends_from s xs) → min s too_many ≤ get_or (ends_from s xs) k d
from_start no_acts s k d h = absurd (omega (arith, h))
from_start (act h b rest) s zero d in_list = omega arith
from_start (act h b rest) s (suc k) d in_list =
    let later = from_start rest (s + written_length h (flat_length b)) k d (le_of_suc-le-suc in_list) in
    omega (arith, later)

pub ends-rise : (xs : Acts) (s : ℕ) → IsNonDecreasing (ends_from s xs)
ends-rise xs s i j d le in_list = rise xs s i j d le in_list
  where
    rise : (xs : Acts) (s i j d : ℕ) → i ≤ j → j < length (ends_from s xs) → get_or (ends_from s xs) i d ≤ get_or (ends_from s xs) j d
    rise no_acts s i j d le h = absurd (omega (arith, h))
    rise (act h b rest) s zero zero d le in_list = omega arith
    rise (act h b rest) s zero (suc j) d le in_list = from_start rest (s + written_length h (flat_length b)) j d (le_of_suc-le-suc in_list)
    rise (act h b rest) s (suc i) zero d le in_list = absurd (omega (arith, le))
    rise (act h b rest) s (suc i) (suc j) d le in_list = rise rest (s + written_length h (flat_length b)) i j d (le_of_suc-le-suc le) (le_of_suc-le-suc in_list)

-- ---- the end of the list

pub whole : (xs : Acts) (s : ℕ) → start_of (min s too_many) (length (ends_from s xs)) (ends_from s xs) ≡ min (s + flat_length xs) too_many
whole no_acts s = omega arith
whole (act h b rest) s = last rest (s + written_length h (flat_length b)) ∙ omega arith
  where
    last : (rest : Acts) (n : ℕ) → get_or (min n too_many ∷ ends_from n rest) (length (ends_from n rest)) 0 ≡ min (n + flat_length rest) too_many
    last no_acts n = omega arith
    last (act g c more) n = last more (n + written_length g (flat_length c)) ∙ omega arith

pub ends-count : (items : List Item) (s : ℕ) → length (ends_from s (acts_view items)) ≡ length items
ends-count [] s = refl
ends-count (x ∷ xs) s = ap (λ n. suc n) (ends-count xs (s + written_length x.head (flat_length x.body)))

-- ---- one act more

pub with_item : (items : List Item) (i : Item) → acts_view (items ++ i ∷ []) ≡ with_act (acts_view items) i.head i.body
with_item [] i = refl
with_item (x ∷ xs) i = ap (act x.head x.body) (with_item xs i)

pub ends-with : (xs : Acts) (s : ℕ) (h : Head) (b : Acts)
    → ends_from s (with_act xs h b) ≡ ends_from s xs ++ min (s + flat_length xs + written_length h (flat_length b)) too_many ∷ []
ends-with no_acts s h b = ap (λ n. min n too_many ∷ []) (omega arith)
ends-with (act g c rest) s h b =
    ap (λ es. min (s + written_length g (flat_length c)) too_many ∷ es)
    (ends-with rest (s + written_length g (flat_length c)) h b ∙ ap (λ n. ends_from (s + written_length g (flat_length c)) rest ++ min n too_many ∷ []) (omega arith))

-- ---- a repeat of a list of which the length is known only where it isn't too large

pub capped : (k n : ℕ) → min (k * min n too_many) too_many ≡ min (k * n) too_many
capped zero n = ap (λ m. min m too_many) (zero-mul (min n too_many) ∙ sym (zero-mul n))
capped (suc k) n =
    ⊎_elim
    (λ (few : n < too_many). ap (λ m. min (suc k * m) too_many) (omega (arith, few)))
    (λ (many : too_many ≤ n).
    let cut : min n too_many ≡ too_many = omega (arith, many) in
    ap (λ m. min (suc k * m) too_many) cut ∙ omega (arith, suc-mul k too_many, suc-mul k n, many))
    (cases_lt n too_many)

pub start_suc : (ends : List ℕ) (i : ℕ) → 0 < i → start_of 0 i ends ≡ get_or ends (i - 1) 0
start_suc ends zero h = absurd (omega (arith, h))
start_suc ends (suc i) h = ap (λ k. get_or ends k 0) (omega arith)

-- ---- what the functions say, over plain variables

pub list_end : (items : List Item) (ends : List ℕ) (count : ℕ) → ends ≡ ends_from 0 (acts_view items) → count ≡ length ends
    → start_of 0 count ends ≡ min (flat_length (acts_view items)) too_many
list_end items ends count is counted = rw (counted, is) (whole (acts_view items) 0 ∙ ap (λ n. min n too_many) (omega arith))

past_length : {A : Type 0} (xs : List A) (i : ℕ) → slice_get xs i ≡ None → length xs ≤ i
past_length [] i e = omega arith
past_length (x ∷ xs) zero e = absurd (none-some x (sym e))
past_length (x ∷ xs) (suc i) e = suc-le-suc (past_length xs i e)

pub not_there : (items : List Item) (ends : List ℕ) (place index : ℕ) → ends ≡ ends_from 0 (acts_view items) → place < too_many
    → ((k : ℕ) → k < index → get_or ends k 0 ≤ place) → slice_get items index ≡ None → slice_get (flat (acts_view items)) place ≡ None
not_there items ends place index is few passed none =
    let past : flat_length (acts_view items) ≤ place =
    omega (arith, past_all items 0 place (omega arith) few (λ k h. subst (λ es. get_or es k 0 ≤ place) is (passed k (omega (arith, h, past_length items index none)))))
    in
    slice_get_past (flat (acts_view items)) place (omega (arith, past, flat-length (acts_view items)))

-- the act at an index, where it begins, and the part of the flat list that it gives
pub there : (items : List Item) (ends : List ℕ) (place index : ℕ) (i : Item) → ends ≡ ends_from 0 (acts_view items) → are_short items ≡ true → place < too_many
    → ((k : ℕ) → k < index → get_or ends k 0 ≤ place) → ((k : ℕ) → index ≤ k → k < length ends → place < get_or ends k 0) → slice_get items index ≡ Some i
    → (start_of 0 index ends ≤ place) × (place - start_of 0 index ends < written_length i.head (flat_length i.body))
    × (slice_get (flat (acts_view items)) place ≡ slice_get (written i.head i.body (flat i.body)) (place - start_of 0 index ends))
    × (is_short_spawn i.head i.body ≡ true)
there items ends place index i is short few passed ahead at =
    let in_list : index < length items = slice_get_within items index i at in
    let within_ends : index < length ends = omega (arith, in_list, ap length is ∙ ends-count items 0) in
    let f = found items 0 place index i (omega arith) few in_list (λ k h. subst (λ es. get_or es k 0 ≤ place) is (passed k h)) (subst (λ es. place < get_or es index 0) is (ahead index (omega arith) within_ends)) in
    let same : get_or items index i ≡ i = get_or_from_slice_get items index i i at in
    let g = subst
    (λ x. (start_of 0 index (ends_from 0 (acts_view items)) ≤ place) × (place - start_of 0 index (ends_from 0 (acts_view items)) < written_length x.head (flat_length x.body))
    × (slice_get (flat (acts_view items)) (place - 0) ≡ slice_get (written x.head x.body (flat x.body)) (place - start_of 0 index (ends_from 0 (acts_view items)))))
    same f
    in
    let h = subst
    (λ es. (start_of 0 index es ≤ place) × (place - start_of 0 index es < written_length i.head (flat_length i.body))
    × (slice_get (flat (acts_view items)) (place - 0) ≡ slice_get (written i.head i.body (flat i.body)) (place - start_of 0 index es)))
    (sym is) g
    in
    (h.0, h.1, ap (slice_get (flat (acts_view items))) (omega arith) ∙ h.2, one_short items index short at)
  where
    one_short : (items : List Item) (index : ℕ) → are_short items ≡ true → slice_get items index ≡ Some i → is_short_spawn i.head i.body ≡ true
    one_short [] index short at = absurd (none-some i at)
    one_short (x ∷ xs) zero short at = subst (λ y. is_short_spawn y.head y.body ≡ true) (same_Some x i at) (and_parts _ _ short).0
    one_short (x ∷ xs) (suc index) short at = one_short xs index (and_parts _ _ short).1 at

pub positive : (k j n : ℕ) → j < k * n → 0 < min n too_many
positive k j zero h = absurd (omega (arith, h, mul-zero k))
positive k j (suc n) h = omega arith

pub repeated_at : (k j : ℕ) (body : Acts) → j < k * flat_length body → j < too_many → slice_get (copies k (flat body)) j ≡ slice_get (flat body) (j % min (flat_length body) too_many)
repeated_at k j body h few =
    copied_at k (flat body) j (subst (λ n. j < k * n) (sym (flat-length body)) h)
    ∙ ap (λ n. slice_get (flat body) (j % n)) (flat-length body)
    ∙ ap (slice_get (flat body))
    (⊎_elim
    (λ (less : flat_length body < too_many). ap (λ n. j % n) (sym (min-eq_left (le_of_lt less))))
    (λ (many : too_many ≤ flat_length body). mod-eq_of_lt (omega (arith, few, many)) ∙ sym (ap (λ n. j % n) (min-eq_right many) ∙ mod-eq_of_lt few))
    (cases_lt (flat_length body) too_many))

-- a plain act stands for itself
pub plain_at : (h : Head) (body : Acts) (inner : List Act) (j n : ℕ) → ((k : ℕ) → h ≡ Repeat k → ⊥) → j < written_length h n
    → slice_get (written h body inner) j ≡ Some (record { head = h; body = body })
plain_at (Repeat k) body inner j n plain h = absurd (plain k refl)
plain_at _ body inner zero n plain h = refl
plain_at _ body inner (suc j) n plain h = absurd (omega (arith, h))

-- where an act of a repeat is found among those that it repeats
pub nonzero : (h : Head) (k j : ℕ) (b : Acts) (len : ℕ) → h ≡ Repeat k → j < written_length h (flat_length b) → len ≡ min (flat_length b) too_many → 0 < len
nonzero h k j b len is less counted = subst (λ n. 0 < n) (sym counted) (positive k j (flat_length b) (subst (λ g. j < written_length g (flat_length b)) is less))

pub repeat_gives : (h : Head) (k j : ℕ) (b : Acts) (len : ℕ) → h ≡ Repeat k → j < written_length h (flat_length b) → j < too_many → len ≡ min (flat_length b) too_many
    → slice_get (written h b (flat b)) j ≡ slice_get (flat b) (j % len)
repeat_gives h k j b len is less few counted =
    ap (λ g. slice_get (written g b (flat b)) j) is
    ∙ repeated_at k j b (subst (λ g. j < written_length g (flat_length b)) is less) few
    ∙ ap (λ n. slice_get (flat b) (j % n)) (sym counted)

-- ---- one act more, as the stored lists have it

pub pushed : (items : List Item) (ends : List ℕ) (i : Item) (end : ℕ) → ends ≡ ends_from 0 (acts_view items)
    → end ≡ min (min (flat_length (acts_view items)) too_many + min (written_length i.head (flat_length i.body)) too_many) too_many
    → ends ++ end ∷ [] ≡ ends_from 0 (acts_view (items ++ i ∷ []))
pushed items ends i end is ends_at =
    let number : end ≡ min (0 + flat_length (acts_view items) + written_length i.head (flat_length i.body)) too_many = omega (arith, ends_at) in
    rw (with_item items i, ends-with (acts_view items) 0 i.head i.body, is, number) refl

pub short_pushed : (items : List Item) (i : Item) → are_short items ≡ true → is_short_spawn i.head i.body ≡ true → are_short (items ++ i ∷ []) ≡ true
short_pushed [] i all one = and_from _ _ one refl
short_pushed (x ∷ xs) i all one = and_from _ _ (and_parts _ _ all).0 (short_pushed xs i (and_parts _ _ all).1 one)

-- the acts inside an act of the list nest less deep
pub inner_falls : (items : List Item) (index : ℕ) (i : Item) → slice_get items index ≡ Some i → depth i.body < depth (acts_view items)
inner_falls [] index i at = absurd (none-some i at)
inner_falls (x ∷ xs) zero i at = subst (λ y. depth y.body < depth (acts_view (x ∷ xs))) (same_Some x i at) (omega arith)
inner_falls (x ∷ xs) (suc index) i at = omega (arith, inner_falls xs index i at)
