-- What a table's logs tell of its parts, part by part.
use Rattle.std.proofs.Common.{◌≡◌, ℕ, zero, suc, ◌+◌, ◌<◌, List, [], ◌∷◌, length, IfSome, slice_get, Some, ap, ◌∙◌, subst, arith}
use Rattle.phase_model.specs.Laws.{IsLegal}
use Rattle.trace_model.specs.Run.{Entry}
use Rattle.trace_model.specs.Told.{phaser_told}
use Rattle.table_receipts.specs.Logs.{Sight}
use Rattle.table_receipts.specs.Parts.{AreLogged}
use Rattle.table_receipts.specs.Parts.{IsToldAt}
use Rattle.table_receipts.specs.Seen.{story_at, IsNamed}

next : (k n : ℕ) → k + 1 + n ≡ k + suc n
next k n = omega arith

named_from : (names : ℕ → ℕ) (k : ℕ) (ps : List (List Entry)) (xs : List Sight) → AreLogged names k ps xs → (n : ℕ) → IfSome (slice_get xs n) (λ x. x.log ≡ names (k + n))
named_from names k [] [] all n = tt
named_from names k (p ∷ ps) (x ∷ xs) all zero =
    let same : k ≡ k + 0 = omega arith in
    all.0.named ∙ ap names same
named_from names k (p ∷ ps) (x ∷ xs) all (suc n) =
    subst (λ (m : ℕ). IfSome (slice_get xs n) (λ x. x.log ≡ names m)) (next k n) (named_from names (k + 1) ps xs all.1 n)
named_from names k [] (x ∷ xs) all n = absurd all
named_from names k (p ∷ ps) [] all n = absurd all

pub are_named : (names : ℕ → ℕ) (ps : List (List Entry)) (xs : List Sight) → AreLogged names 0 ps xs → IsNamed names xs
are_named names ps xs all n =
    let same : 0 + n ≡ n = omega arith in
    subst (λ (m : ℕ). IfSome (slice_get xs n) (λ x. x.log ≡ names m)) same (named_from names 0 ps xs all n)

told_from : (names : ℕ → ℕ) (k : ℕ) (ps : List (List Entry)) (xs : List Sight) → AreLogged names k ps xs → (n : ℕ) → n < length ps
    → (tickets : List ℕ) × (slice_get ps n ≡ Some (phaser_told (k + n) (story_at xs n) tickets)) × (length tickets ≡ length (story_at xs n).past) × IsLegal (story_at xs n)
told_from names k [] [] all n within = absurd (omega (arith, within))
told_from names k (p ∷ ps) (x ∷ xs) all zero within =
    let same : k ≡ k + 0 = omega arith in
    (all.0.tickets, ap (λ (q : List Entry). Some q) (all.0.told ∙ ap (λ (m : ℕ). phaser_told m x.story all.0.tickets) same), all.0.drawn, all.0.legal)
told_from names k (p ∷ ps) (x ∷ xs) all (suc n) within =
    let rest = told_from names (k + 1) ps xs all.1 n (omega (arith, within)) in
    (rest.0, rest.1 ∙ ap (λ (m : ℕ). Some (phaser_told m (story_at xs n) rest.0)) (next k n), rest.2, rest.3)
told_from names k [] (x ∷ xs) all n within = absurd all
told_from names k (p ∷ ps) [] all n within = absurd all

pub told_at_each : (names : ℕ → ℕ) (ps : List (List Entry)) (xs : List Sight) → AreLogged names 0 ps xs → (n : ℕ) → n < length ps → IsToldAt n (story_at xs n) ps
told_at_each names ps xs all n within =
    let same : 0 + n ≡ n = omega arith in
    let one = told_from names 0 ps xs all n within in
    (one.0, one.1 ∙ ap (λ (m : ℕ). Some (phaser_told m (story_at xs n) one.0)) same, one.2, one.3)
