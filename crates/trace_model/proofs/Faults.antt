-- A trace is explained exactly where it has no fault, and its first fault is the first.
use Rattle.std.proofs.Common.{◌≡◌, ℕ, ◌+◌, Bool, true, false, ◌&&◌, if◌then◌else◌, List, [], ◌∷◌, ◌++◌, length, Some, None, is_none, refl, sym, ap, ◌∙◌, arith}
use Rattle.std.proofs.Math.Bool.{and-false}
use Rattle.std.proofs.lemmas.Option.{none-some, same_Some}
use mathlib.Core.List.{reverse_aux}
use Rattle.phase_modes.specs.declared.limits.Limits.{Limits}
use Rattle.trace_model.specs.Run.{Entry, Run}
use Rattle.trace_model.specs.Explained.{may_follow, all_follow, is_over, is_explained, fault_after, first_fault}
use Rattle.trace_model.specs.Laws.{IsAtFault, IsFirstFault}

-- where an entry doesn't follow, no entries after it mend that
not_mended : (l : Limits) (es before : List Entry) → all_follow l before ≡ false → all_follow l (reverse_aux es before) ≡ false
not_mended l [] before h = h
not_mended l (e ∷ es) before h = not_mended l es (e ∷ before) (ap (λ b. may_follow l before e && b) h ∙ and-false (may_follow l before e))

by_end : (over : Bool) (n : ℕ) → over ≡ is_none (if over then None else Some n)
by_end true n = refl
by_end false n = refl

-- one entry more, where the claim holds of those after it
by_entry : (l : Limits) (before : List Entry) (e : Entry) (es : List Entry) (b : Bool) → may_follow l before e ≡ b → all_follow l before ≡ true
    → (all_follow l (e ∷ before) ≡ true → (all_follow l (reverse_aux es (e ∷ before)) && is_over (reverse_aux es (e ∷ before))) ≡ is_none (fault_after l (e ∷ before) es))
    → (all_follow l (reverse_aux es (e ∷ before)) && is_over (reverse_aux es (e ∷ before))) ≡ is_none (if may_follow l before e then fault_after l (e ∷ before) es else Some (length before + 1))
by_entry l before e es true is h after =
    after (ap (λ b. b && all_follow l before) is ∙ h) ∙ ap (λ b. is_none (if b then fault_after l (e ∷ before) es else Some (length before + 1))) (sym is)
by_entry l before e es false is h after =
    ap (λ b. b && is_over (reverse_aux es (e ∷ before))) (not_mended l es (e ∷ before) (ap (λ b. b && all_follow l before) is))
    ∙ ap (λ b. is_none (if b then fault_after l (e ∷ before) es else Some (length before + 1))) (sym is)

from : (l : Limits) (before es : List Entry) → all_follow l before ≡ true → (all_follow l (reverse_aux es before) && is_over (reverse_aux es before)) ≡ is_none (fault_after l before es)
from l before [] h = rw h (by_end (is_over before) (length before + 1))
from l before (e ∷ es) h = by_entry l before e es (may_follow l before e) refl h (from l (e ∷ before) es)

pub faultless : (r : Run) → is_explained r ≡ is_none (first_fault r)
faultless r = from r.limits [] r.events refl

-- ---- the first one

-- the entries from here on up to the first fault, and those after
record Found (l : Limits) (before es : List Entry) (place : ℕ) : Type 0 where
  seen : List Entry
  after : List Entry
  all : seen ++ after ≡ es
  here : place ≡ length before + length seen + 1
  follow : all_follow l (reverse_aux seen before) ≡ true
  fault : IsAtFault l (reverse_aux seen before) after

found_here : (l : Limits) (before es : List Entry) (place : ℕ)
    → all_follow l before ≡ true → IsAtFault l before es
    → Some (length before + 1) ≡ Some place → Found l before es place
found_here l before es place follow fault is =
    record {
      seen = [];
      after = es;
      all = refl;
      here = omega (arith, same_Some (length before + 1) place is);
      follow = follow;
      fault = fault;
    }

found_at_end : (l : Limits) (before : List Entry) (place : ℕ) (over : Bool)
    → is_over before ≡ over → all_follow l before ≡ true
    → (if over then None else Some (length before + 1)) ≡ Some place → Found l before [] place
found_at_end l before place true is follow found = absurd (none-some place found)
found_at_end l before place false is follow found = found_here l before [] place follow is found

-- what is found after an entry is found from it on
found_later : (l : Limits) (before : List Entry) (e : Entry) (es : List Entry) (place : ℕ)
    → Found l (e ∷ before) es place → Found l before (e ∷ es) place
found_later l before e es place f =
    record {
      seen = e ∷ f.seen;
      after = f.after;
      all = ap (λ (xs : List Entry). e ∷ xs) f.all;
      here = omega (arith, f.here);
      follow = f.follow;
      fault = f.fault;
    }

found_by_entry : (l : Limits) (before : List Entry) (e : Entry) (es : List Entry) (place : ℕ) (b : Bool)
    → may_follow l before e ≡ b → all_follow l before ≡ true
    → (all_follow l (e ∷ before) ≡ true → fault_after l (e ∷ before) es ≡ Some place
    → Found l (e ∷ before) es place)
    → (if b then fault_after l (e ∷ before) es else Some (length before + 1)) ≡ Some place
    → Found l before (e ∷ es) place
found_by_entry l before e es place true is follow later found =
    found_later l before e es place (later (ap (λ b. b && all_follow l before) is ∙ follow) found)
found_by_entry l before e es place false is follow later found =
    found_here l before (e ∷ es) place follow is found

found_from : (l : Limits) (before es : List Entry) (place : ℕ)
    → all_follow l before ≡ true → fault_after l before es ≡ Some place → Found l before es place
found_from l before [] place follow found = found_at_end l before place (is_over before) refl follow found
found_from l before (e ∷ es) place follow found =
    found_by_entry l before e es place (may_follow l before e) refl follow (found_from l (e ∷ before) es place)
    found

pub first : (r : Run) (place : ℕ) → first_fault r ≡ Some place → IsFirstFault r place
first r place found =
    let f = found_from r.limits [] r.events place refl found in
    record {
      before = f.seen;
      after = f.after;
      all = f.all;
      here = omega (arith, f.here);
      follow = f.follow;
      fault = f.fault;
    }
