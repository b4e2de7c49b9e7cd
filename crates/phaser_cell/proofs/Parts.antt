-- The parts of phasers, as they are added one after the other.
use Rattle.std.proofs.Common.{◌≡◌, ℕ, suc, ◌+◌, List, [], ◌∷◌, ◌++◌, length, map, ap, sym, subst, ◌∙◌, arith}
use Rattle.std.proofs.lemmas.List.{map-append}
use Rattle.phase_model.specs.Amounts.{Amount}
use Rattle.trace_model.specs.Run.{Entry}
use Rattle.phaser_cell.specs.Telling.{IsPhaserPart, ArePhaserParts}

pub one_phaser_more : (n : ℕ) (ps : List (List Entry)) (sums : List Amount) (p : List Entry) (a : Amount) → ArePhaserParts n ps sums → IsPhaserPart (n + length ps) p a → ArePhaserParts n (ps ++ p ∷ []) (sums ++ a ∷ [])
one_phaser_more n [] [] p a all last =
    let same : n + 0 ≡ n = omega arith in
    (subst (λ k. IsPhaserPart k p a) same last, tt)
one_phaser_more n (q ∷ ps) (b ∷ sums) p a all last =
    let same : n + suc (length ps) ≡ n + 1 + length ps = omega arith in
    (all.0, one_phaser_more (n + 1) ps sums p a all.1 (subst (λ k. IsPhaserPart k p a) same last))
one_phaser_more n [] (b ∷ sums) p a all last = absurd all
one_phaser_more n (q ∷ ps) [] p a all last = absurd all

-- the same as the lists grow
pub phasers_grow : {B : Type 0} (sums : B → Amount) (ps ps' : List (List Entry)) (bs bs' : List B) (p : List Entry) (b : B)
    → ps' ≡ ps ++ p ∷ []
    → bs' ≡ bs ++ b ∷ []
    → ArePhaserParts 0 ps (map sums bs)
    → IsPhaserPart (length ps) p (sums b)
    → ArePhaserParts 0 ps' (map sums bs')
phasers_grow sums ps ps' bs bs' p b more book all last =
    let place : length ps ≡ 0 + length ps = omega arith in
    let whole = one_phaser_more 0 ps (map sums bs) p (sums b) all (subst (λ k. IsPhaserPart k p (sums b)) place last) in
    let booked = ap (map sums) book ∙ map-append sums bs (b ∷ []) in
    subst (λ (l : List (List Entry)). ArePhaserParts 0 l (map sums bs')) (sym more)
    (subst (λ (l : List Amount). ArePhaserParts 0 (ps ++ p ∷ []) l) (sym booked) whole)
