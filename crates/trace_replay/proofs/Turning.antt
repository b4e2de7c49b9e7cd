-- Parts are gone through in turn: of one of them the next entry is taken, where its ticket is above those before.
use Rattle.std.proofs.Common.{◌≡◌, inl, inr, ℕ, zero, suc, ◌+◌, ◌≤◌, ◌<◌, ◌==◌, Bool, true, false, cond, nat_lt, List, [], ◌∷◌, ◌++◌, length, map, drop, get_or, set, replicate, Some, None, refl, sym, ap, subst, ◌∙◌, arith, append_assoc, ◌-◌, drop_of_length-le}
use Rattle.std.proofs.lemmas.Bool.{and_parts, cases_Bool, ne_eqb, eq-eqb, lt-ltb, ltb-true, le-ltb}
use Rattle.std.proofs.lemmas.List.{map-append, append-nil, length-replicate, length-set}
use Rattle.std.proofs.lemmas.List.Elements.{All-nil, All-head, All-tail, All-push, All-set, All-weaker, All-replicate, All-map, All-filter, All-get_or, filter_passes, All-contains_itself}
use Rattle.std.proofs.lemmas.List.Sorted.{IsPermutation-refl, IsPermutation-sym, IsPermutation-trans, IsPermutation-append_right, IsPermutation-middle, IsNonDecreasingBy-short, IsNonDecreasingBy-push, All-permutation, sum_by-IsPermutation}
use Rattle.std.proofs.lemmas.List.Sums.{length-filter, sum_by-cons}
use Rattle.std.proofs.lemmas.Bool.Decides.{nat_tests}
use Rattle.std.specs.List.{All, Contains, filter, sum_by, slice_get}
use Rattle.std.specs.List.Sorted.{IsPermutation, IsNonDecreasingBy, IsStableByKey, ties}
use Rattle.std.specs.Ordering.{is_lt, nat_cmp}
use Rattle.phase_modes.specs.declared.limits.Limits.{Limits}
use Rattle.trace_model.specs.Run.{Entry, Run}
use Rattle.trace_model.specs.Parts.{rises}
use Rattle.trace_replay.specs.declared.merging.Mark.{Mark}
use Rattle.trace_replay.specs.Merging.{marked_after, all_marked, fault_from, merge_fault, entry_of}
use Rattle.trace_replay.specs.inner.Turned.{IsTurned, AreTaken}
use Rattle.trace_replay.proofs.Marking.{rest_is}
use Rattle.trace_replay.proofs.OfParts.{rises_tail, has, once, Among, among, greater}

-- an event that stands in its part after none with a greater ticket
abbrev pub mark_of : Entry → Mark
mark_of e = record { ticket = e.0; event = e.1; late = false }

-- what is left of the parts, from these places on, after these tickets
abbrev pub remaining : List (List Entry) → List ℕ → List ℕ → List Mark
remaining [] ns ms = []
remaining (p ∷ ps) [] ms = []
remaining (p ∷ ps) (n ∷ ns) [] = []
remaining (p ∷ ps) (n ∷ ns) (m ∷ ms) = marked_after m (drop n p) ++ remaining ps ns ms

-- those that were taken, with no ticket above the last, and those that are left are all together
pub record IsOnWay (parts : List (List Entry)) (ns : List ℕ) (last : ℕ) (es : List Entry) : Type 0 where
  pub mosts : List ℕ
  pub many : length mosts ≡ length parts
  pub below : All (λ m. m ≤ last) mosts
  pub passed : All (λ (m : Mark). m.ticket ≤ last) (map mark_of es)
  pub rising : IsNonDecreasingBy (λ (m : Mark). m.ticket) (map mark_of es)
  pub up : rises es ≡ true
  pub same : IsPermutation (all_marked parts) (map mark_of es ++ remaining parts ns mosts)

-- ---- the start

at_start : (parts : List (List Entry)) → remaining parts (replicate (length parts) 0) (replicate (length parts) 0) ≡ all_marked parts
at_start [] = refl
at_start (p ∷ ps) = ap (λ l. marked_after 0 p ++ l) (at_start ps)

pub begins : (parts : List (List Entry)) (ns : List ℕ) → ns ≡ replicate (length parts) 0 → IsOnWay parts ns 0 []
begins parts ns zeros = record {
  mosts = replicate (length parts) 0;
  many = length-replicate (length parts) 0;
  below = All-replicate (λ m. m ≤ 0) (length parts) 0 (omega arith);
  passed = All-nil (λ (m : Mark). m.ticket ≤ 0);
  rising = IsNonDecreasingBy-short (λ (m : Mark). m.ticket) [] (omega arith);
  up = refl;
  same = subst (λ (l : List Mark). IsPermutation (all_marked parts) l)
      (sym (ap (λ (xs : List ℕ). remaining parts xs (replicate (length parts) 0)) zeros ∙ at_start parts))
      (IsPermutation-refl (all_marked parts));
}

-- ---- a step

in_time : (m : ℕ) (e : Entry) (es : List Entry) → m < e.0 → marked_after m (e ∷ es) ≡ mark_of e ∷ marked_after e.0 es
in_time m e es less =
    let fine : nat_lt e.0 m ≡ false = le-ltb e.0 m (omega (arith, less)) in
    rw fine refl

same_list : {X : Type 0} (xs ys : List X) → xs ≡ ys → IsPermutation xs ys
same_list xs ys is = subst (λ l. IsPermutation xs l) is (IsPermutation-refl xs)

taken : (ps : List (List Entry)) (ns ms : List ℕ) (i n last : ℕ) (p : List Entry) (e : Entry)
    → length ms ≡ length ps → i < length ps → i < length ns → get_or ps i p ≡ p → get_or ns i n ≡ n → slice_get p n ≡ Some e
    → All (λ m. m ≤ last) ms → last < e.0
    → IsPermutation (remaining ps ns ms) (mark_of e ∷ remaining ps (set ns i (n + 1)) (set ms i e.0))
taken [] ns ms i n last p e many in_ps in_ns here place next below later = absurd (omega (arith, in_ps))
taken (q ∷ ps) [] ms i n last p e many in_ps in_ns here place next below later = absurd (omega (arith, in_ns))
taken (q ∷ ps) (k ∷ ns) [] i n last p e many in_ps in_ns here place next below later = absurd (omega (arith, many))
taken (q ∷ ps) (k ∷ ns) (m ∷ ms) zero n last p e many in_ps in_ns here place next below later =
    let rest = remaining ps ns ms in
    let at : drop k q ≡ e ∷ drop (n + 1) q =
    ap (λ j. drop j q) place ∙ (ap (λ (l : List Entry). drop n l) here ∙ (rest_is p n e next ∙ ap (λ (l : List Entry). e ∷ drop (n + 1) l) (sym here))) in
    let first : marked_after m (drop k q) ≡ mark_of e ∷ marked_after e.0 (drop (n + 1) q) =
    ap (λ (l : List Entry). marked_after m l) at ∙ in_time m e (drop (n + 1) q) (omega (arith, All-head (λ x. x ≤ last) m ms below, later)) in
    same_list (marked_after m (drop k q) ++ rest) (mark_of e ∷ (marked_after e.0 (drop (n + 1) q) ++ rest)) (ap (λ (l : List Mark). l ++ rest) first)
taken (q ∷ ps) (k ∷ ns) (m ∷ ms) (suc j) n last p e many in_ps in_ns here place next below later =
    let before = marked_after m (drop k q) in
    let after = remaining ps (set ns j (n + 1)) (set ms j e.0) in
    let rest = taken ps ns ms j n last p e (omega (arith, many)) (omega (arith, in_ps)) (omega (arith, in_ns)) here place next (All-tail (λ x. x ≤ last) m ms below) later in
    IsPermutation-trans (before ++ remaining ps ns ms) (before ++ (mark_of e ∷ after)) (mark_of e ∷ (before ++ after))
    (IsPermutation-append_right before (remaining ps ns ms) (mark_of e ∷ after) rest) (IsPermutation-middle before (mark_of e) after)

rises_push : (es : List Entry) (e : Entry) → rises es ≡ true → All (λ (m : Mark). m.ticket < e.0) (map mark_of es) → rises (es ++ e ∷ []) ≡ true
rises_push [] e up below = refl
rises_push (a ∷ []) e up below = rw (lt-ltb a.0 e.0 (All-head (λ (m : Mark). m.ticket < e.0) (mark_of a) [] below)) refl
rises_push (a ∷ b ∷ es) e up below =
    let p = and_parts (nat_lt a.0 b.0) (rises (b ∷ es)) up in
    rw (p.0) (rises_push (b ∷ es) e p.1 (All-tail (λ (m : Mark). m.ticket < e.0) (mark_of a) (map mark_of (b ∷ es)) below))

pub goes_on : (parts : List (List Entry)) (ns : List ℕ) (last : ℕ) (es : List Entry) (i n : ℕ) (p : List Entry) (e : Entry)
    → IsOnWay parts ns last es → i < length parts → i < length ns → get_or parts i p ≡ p → get_or ns i n ≡ n → slice_get p n ≡ Some e → last < e.0
    → IsOnWay parts (set ns i (n + 1)) e.0 (es ++ e ∷ [])
goes_on parts ns last es i n p e way in_parts in_ns here place next later =
    let ms = map mark_of es in
    let now : map mark_of (es ++ e ∷ []) ≡ ms ++ mark_of e ∷ [] = map-append mark_of es (e ∷ []) in
    let rest = remaining parts ns way.mosts in
    let rest' = remaining parts (set ns i (n + 1)) (set way.mosts i e.0) in
    let step = taken parts ns way.mosts i n last p e way.many in_parts in_ns here place next way.below later in
    let joined : ms ++ (mark_of e ∷ rest') ≡ map mark_of (es ++ e ∷ []) ++ rest' =
    sym (ap (λ (l : List Mark). l ++ rest') now ∙ append_assoc ms (mark_of e ∷ []) rest') in
    record {
      mosts = set way.mosts i e.0;
      many = length-set way.mosts i e.0 ∙ way.many;
      below = All-set (λ m. m ≤ e.0) way.mosts i e.0 (omega arith) (All-weaker (λ m. m ≤ last) (λ m. m ≤ e.0) (λ m h. omega (arith, h, later)) way.mosts way.below);
      passed = subst (λ (l : List Mark). All (λ (m : Mark). m.ticket ≤ e.0) l) (sym now)
          (All-push (λ (m : Mark). m.ticket ≤ e.0) ms (mark_of e) (All-weaker (λ (m : Mark). m.ticket ≤ last) (λ (m : Mark). m.ticket ≤ e.0) (λ m h. omega (arith, h, later)) ms way.passed) (omega arith));
      rising = subst (λ (l : List Mark). IsNonDecreasingBy (λ (m : Mark). m.ticket) l) (sym now)
          (IsNonDecreasingBy-push (λ (m : Mark). m.ticket) ms (mark_of e) way.rising
          (λ d some. omega (arith, later, All-get_or (λ (m : Mark). m.ticket ≤ last) ms (length ms - 1) d (omega (arith, some)) way.passed)));
      up = rises_push es e way.up (All-weaker (λ (m : Mark). m.ticket ≤ last) (λ (m : Mark). m.ticket < e.0) (λ m h. omega (arith, h, later)) ms way.passed);
      same = subst (λ (l : List Mark). IsPermutation (all_marked parts) l) joined
          (IsPermutation-trans (all_marked parts) (ms ++ rest) (ms ++ (mark_of e ∷ rest')) way.same (IsPermutation-append_right ms rest (mark_of e ∷ rest') step));
    }

-- ---- the end: nothing is left

none_left : (ps : List (List Entry)) (ns ms : List ℕ) → AreTaken ps ns → remaining ps ns ms ≡ []
none_left [] ns ms all = refl
none_left (p ∷ ps) [] ms all = refl
none_left (p ∷ ps) (n ∷ ns) [] all = refl
none_left (p ∷ ps) (n ∷ ns) (m ∷ ms) all =
    let here : drop n p ≡ [] = ap (λ k. drop k p) (all 0 (omega arith)) ∙ drop_of_length-le p (omega arith) in
    ap (λ (l : List Entry). marked_after m l ++ remaining ps ns ms) here ∙ none_left ps ns ms (λ k less. all (suc k) (omega (arith, less)))

-- ---- no event is at fault

no_fault : (e : Entry) (es : List Entry) (place : ℕ) → rises (e ∷ es) ≡ true → fault_from (Some e.0) place (map mark_of es) ≡ None
no_fault e [] place up = refl
no_fault e (f ∷ es) place up =
    let p = and_parts (nat_lt e.0 f.0) (rises (f ∷ es)) up in
    let other : (e.0 == f.0) ≡ false = ne_eqb e.0 f.0 (λ same. omega (arith, same, ltb-true e.0 f.0 p.0)) in
    rw other (no_fault f es (place + 1) p.1)

faultless : (es : List Entry) → rises es ≡ true → merge_fault (map mark_of es) ≡ None
faultless [] up = refl
faultless (e ∷ es) up = no_fault e es 2 up

entries_of_marks : (es : List Entry) → map entry_of (map mark_of es) ≡ es
entries_of_marks [] = refl
entries_of_marks (e ∷ es) = ap (λ (l : List Entry). e ∷ l) (entries_of_marks es)

-- ---- no two have one ticket, so all that have one stand in whatever order

-- an entry's mark
abbrev IsMarkOf : List Entry → Mark → Type 0
IsMarkOf es m = (e : Entry) × Among e es × (m ≡ mark_of e)

all_marks_of : (es : List Entry) → All (IsMarkOf es) (map mark_of es)
all_marks_of es = All-map (IsMarkOf es) mark_of es (All-weaker (Contains es) (λ e. IsMarkOf es (mark_of e)) (λ e c. (e, among es e c, refl)) es (All-contains_itself es))

same_entry : (es : List Entry) (e f : Entry) → rises es ≡ true → Among e es → Among f es → e.0 ≡ f.0 → e ≡ f
same_entry [] e f up a b same = absurd a
same_entry (z ∷ es) e f up (inl is) (inl also) same = is ∙ sym also
same_entry (z ∷ es) e f up (inl is) (inr later) same = absurd (omega (arith, greater z es up f later, same, ap (λ (x : Entry). x.0) is))
same_entry (z ∷ es) e f up (inr later) (inl is) same = absurd (omega (arith, greater z es up e later, same, ap (λ (x : Entry). x.0) is))
same_entry (z ∷ es) e f up (inr a) (inr b) same = same_entry es e f (rises_tail z es up) a b same

abbrev lower : Mark → Mark → Bool
lower x y = is_lt (nat_cmp x.ticket y.ticket)

tied : (x y : Mark) → ties lower x y ≡ true → x.ticket ≡ y.ticket
tied x y h = grind (arith, nat_tests)

few : (es : List Entry) (x : Mark) → length (filter (ties lower x) (map mark_of es)) ≤ sum_by (has x.ticket) es
few [] x = omega arith
few (e ∷ es) x = elim (cases_Bool (ties lower x (mark_of e))) [
  | inl tie ↦
      let one : has x.ticket e ≡ 1 = rw (eq-eqb e.0 x.ticket (sym (tied x (mark_of e) tie))) refl in
      rw tie (omega (arith, few es x, one, sum_by-cons (has x.ticket) e es))
  | inr free ↦ rw free (omega (arith, few es x, sum_by-cons (has x.ticket) e es))
]

single : {X : Type 0} (P : X → Type 0) (us vs : List X) → length us ≡ length vs → length vs ≤ 1 → All P us → All P vs → ((a b : X) → P a → P b → a ≡ b) → us ≡ vs
single P [] [] long short all also one = refl
single P [] (v ∷ vs) long short all also one = absurd (omega (arith, long))
single P (u ∷ us) [] long short all also one = absurd (omega (arith, long))
single P (u ∷ []) (v ∷ []) long short all also one = ap (λ x. x ∷ []) (one u v (All-head P u [] all) (All-head P v [] also))
single P (u ∷ []) (v ∷ w ∷ vs) long short all also one = absurd (omega (arith, short))
single P (u ∷ w ∷ us) (v ∷ []) long short all also one = absurd (omega (arith, long))
single P (u ∷ w ∷ us) (v ∷ z ∷ vs) long short all also one = absurd (omega (arith, short))

same_many : {X : Type 0} (p : X → Bool) (xs ys : List X) → IsPermutation xs ys → length (filter p ys) ≡ length (filter p xs)
same_many p xs ys same = length-filter p ys ∙ (sum_by-IsPermutation (λ x. cond (p x) 1 0) xs ys same ∙ sym (length-filter p xs))

stable : (es : List Entry) (xs : List Mark) → rises es ≡ true → IsPermutation xs (map mark_of es) → IsStableByKey (λ (m : Mark). m.ticket) nat_cmp xs (map mark_of es)
stable es xs up same = λ x.
    let ms = map mark_of es in
    let p = ties lower x in
    let marks = all_marks_of es in
    let marks' = All-permutation (IsMarkOf es) ms xs (IsPermutation-sym xs ms same) marks in
    let P : Mark → Type 0 = λ m. IsMarkOf es m × (p m ≡ true) in
    single P (filter p ms) (filter p xs) (same_many p xs ms same)
    (omega (arith, same_many p xs ms same, few es x, once es up x.ticket))
    (λ k d less. (All-filter p (IsMarkOf es) ms marks k d less, filter_passes p ms k d less))
    (λ k d less. (All-filter p (IsMarkOf es) xs marks' k d less, filter_passes p xs k d less))
    (λ a b of_a of_b.
    let e = of_a.0.0 in
    let f = of_b.0.0 in
    let at_e : x.ticket ≡ e.0 = tied x a of_a.1 ∙ ap (λ (m : Mark). m.ticket) of_a.0.2 in
    let at_f : x.ticket ≡ f.0 = tied x b of_b.1 ∙ ap (λ (m : Mark). m.ticket) of_b.0.2 in
    of_a.0.2 ∙ (ap mark_of (same_entry es e f up of_a.0.1 of_b.0.1 (sym at_e ∙ at_f)) ∙ sym of_b.0.2))

pub ends : (l : Limits) (parts : List (List Entry)) (ns : List ℕ) (last : ℕ) (r : Run) → r.limits ≡ l → IsOnWay parts ns last r.events → AreTaken parts ns → IsTurned l parts r
ends l parts ns last r limits way all =
    let ms = map mark_of r.events in
    let same : IsPermutation (all_marked parts) ms =
    subst (λ (xs : List Mark). IsPermutation (all_marked parts) xs) (ap (λ (xs : List Mark). ms ++ xs) (none_left parts ns way.mosts all) ∙ append-nil ms) way.same in
    let limited : Limits → Run = λ x. record { limits = x; events = r.events } in
    let told : List Entry → Run = λ es. record { limits = l; events = es } in
    let is : r ≡ told (map entry_of ms) = ap limited limits ∙ ap told (sym (entries_of_marks r.events)) in
    (ms, record { as_often = same; rising = way.rising; ties = stable r.events (all_marked parts) way.up same }, (faultless r.events way.up, is))
