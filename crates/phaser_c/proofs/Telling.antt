-- One more who was freed is told of.
use Rattle.std.proofs.Common.{◌≡◌, ◌<◌, List, [], ◌∷◌, ◌++◌, slice_set, length, map, drop, refl, ap, arith}
use Rattle.long_locks.specs.declared.answer.Freed.{Freed}
use Rattle.phaser_c.specs.Freed.{given_freed}
use Rattle.phaser_c.specs.declared.freed.GivenFreed.{GivenFreed}

pub told_more : (done : List Freed) (f : Freed) (room : List GivenFreed) → length done < length room
    → slice_set (map given_freed done ++ drop (length done) room) (length done) (given_freed f)
    ≡ map given_freed (done ++ f ∷ []) ++ drop (length (done ++ f ∷ [])) room
told_more [] f [] less = absurd (omega (arith, less))
told_more [] f (r ∷ rs) less = refl
told_more (d ∷ ds) f [] less = absurd (omega (arith, less))
told_more (d ∷ ds) f (r ∷ rs) less = ap (λ (xs : List GivenFreed). given_freed d ∷ xs) (told_more ds f rs (omega (arith, less)))
