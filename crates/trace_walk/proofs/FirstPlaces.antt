-- The place that a pass over a trace finds is the first at which its events don't follow the program.
use Rattle.std.proofs.Common.{ℕ, suc, ◌+◌, ◌≡◌, Bool, true, false, ◌&&◌, List, [], ◌∷◌, ◌++◌, reverse, take, Option, Some, None, refl, sym, subst, ap, ◌∙◌, if◌then◌else◌, append_assoc, append-nil, arith}
use Rattle.std.proofs.lemmas.Bool.{and_from}
use Rattle.std.proofs.lemmas.List.{reverse-append}
use Rattle.job_script.specs.Program.{Program}
use Rattle.world_model.specs.declared.event.WorldEvent.{WorldEvent}
use Rattle.trace_walk.specs.Scripts.{act_of}
use Rattle.trace_walk.specs.Follows.{is_next, follows}
use Rattle.trace_walk.specs.Laws.{first_wrong, IsFirstWrong, PlacesAreFirst}

-- the events to come stand on those before
moved : (e : WorldEvent) (es w : List WorldEvent) → reverse (e ∷ es) ++ w ≡ reverse es ++ e ∷ w
moved e es w = ap (λ v. v ++ w) (reverse-append (e ∷ []) es) ∙ append_assoc (reverse es) (e ∷ []) w

abbrev IsFirstFrom : Program → List WorldEvent → ℕ → List WorldEvent → Option ℕ → Type 0
IsFirstFrom p w k es None = follows p (reverse es ++ w) ≡ true
IsFirstFrom p w k es (Some n) = (j : ℕ) × (n ≡ k + suc j) × (follows p (reverse (take j es) ++ w) ≡ true) × (follows p (reverse (take (suc j) es) ++ w) ≡ false)

later : (p : Program) (w : List WorldEvent) (k : ℕ) (e : WorldEvent) (es : List WorldEvent) (o : Option ℕ) → IsFirstFrom p (e ∷ w) (k + 1) es o → IsFirstFrom p w k (e ∷ es) o
later p w k e es None t = subst (λ v. follows p v ≡ true) (sym (moved e es w)) t
later p w k e es (Some n) t =
    (suc t.0, omega (arith, t.1), subst (λ v. follows p v ≡ true) (sym (moved e (take t.0 es) w)) t.2, subst (λ v. follows p v ≡ false) (sym (moved e (take (suc t.0) es) w)) t.3)

now : (p : Program) (w : List WorldEvent) (k : ℕ) (e : WorldEvent) (es : List WorldEvent) → follows p w ≡ true → is_next p w (act_of e) ≡ false → IsFirstFrom p w k (e ∷ es) (Some (k + 1))
now p w k e es h n = (0, refl, h, ap (λ b. b && follows p w) n)

by_next : (p : Program) (w : List WorldEvent) (k : ℕ) (e : WorldEvent) (es : List WorldEvent) → follows p w ≡ true → (follows p (e ∷ w) ≡ true → IsFirstFrom p (e ∷ w) (k + 1) es (first_wrong p (e ∷ w) (k + 1) es))
    → (b : Bool) → is_next p w (act_of e) ≡ b → IsFirstFrom p w k (e ∷ es) (if b then first_wrong p (e ∷ w) (k + 1) es else Some (k + 1))
by_next p w k e es h rest true is = later p w k e es (first_wrong p (e ∷ w) (k + 1) es) (rest (and_from (is_next p w (act_of e)) (follows p w) is h))
by_next p w k e es h rest false is = now p w k e es h is

first_holds : (p : Program) (w : List WorldEvent) (k : ℕ) (es : List WorldEvent) → follows p w ≡ true → IsFirstFrom p w k es (first_wrong p w k es)
first_holds p w k [] h = h
first_holds p w k (e ∷ es) h = by_next p w k e es h (first_holds p (e ∷ w) (k + 1) es) (is_next p w (act_of e)) refl

from_none : (p : Program) (es : List WorldEvent) (o : Option ℕ) → IsFirstFrom p [] 0 es o → IsFirstWrong p es o
from_none p es None t = subst (λ v. follows p v ≡ true) (append-nil (reverse es)) t
from_none p es (Some n) t =
    (t.0, omega (arith, t.1), subst (λ v. follows p v ≡ true) (append-nil (reverse (take t.0 es))) t.2, subst (λ v. follows p v ≡ false) (append-nil (reverse (take (suc t.0) es))) t.3)

pub places-first : PlacesAreFirst
places-first p es = from_none p es (first_wrong p [] 0 es) (first_holds p [] 0 es refl)
