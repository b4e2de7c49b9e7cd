-- What sixteen places hold with one pair more.
use Rattle.std.proofs.Common.{◌≡◌, ℕ, ◌≤◌, ◌-◌, List, ◌+◌, ◌<◌, length, take, drop, set, replicate, sym, ap, ◌∙◌, arith}
use Rattle.std.proofs.lemmas.List.{length-take-le, length-set, drop-set-lt, drop-drop, drop-replicate}
use Rattle.phase_modes.specs.declared.phased.Pair.{Pair}
use Rattle.phase_modes.specs.inner.Places.{filler}

-- a list that isn't full leaves a place
pub room_left : (pairs : List Pair) (len : ℕ) → len ≤ 16 → length pairs ≡ 16
    → length (take len pairs) < 16 → len < 16
room_left pairs len few full less =
    let within : len ≤ length pairs = omega arith in
    omega (arith, length-take-le len pairs within, less)

-- what the places hold with one item more
pub places_more : (pairs : List Pair) (len : ℕ) (pair : Pair) → len < 16 → length pairs ≡ 16
    → drop len pairs ≡ replicate (16 - len) filler
    → (len + 1 ≤ 16) × (length (set pairs len pair) ≡ 16)
    × (drop (len + 1) (set pairs len pair) ≡ replicate (16 - (len + 1)) filler)
places_more pairs len pair few full filled =
    let less : len < len + 1 = omega arith in
    let fewer : 16 - len - 1 ≡ 16 - (len + 1) = omega arith in
    let rest : drop (len + 1) pairs ≡ replicate (16 - (len + 1)) filler =
    sym (drop-drop 1 len pairs) ∙ (ap (λ xs. drop 1 xs) filled
    ∙ (drop-replicate 1 (16 - len) filler ∙ ap (λ n. replicate n filler) fewer))
    in
    (omega arith, length-set pairs len pair ∙ full, drop-set-lt (len + 1) pairs len pair less ∙ rest)
