-- A call that a finish refuses leaves the table of finishes as it was.
use Rattle.std.proofs.Common.{◌≡◌, ℕ, List, get_or, set, ap, ◌∙◌}
use Rattle.std.proofs.lemmas.List.{set-get_or}
use Rattle.finish_core.specs.Finish.{FinishStory}
use Rattle.world_records.specs.WorldState.{WorldState}

pub finish_kept : (xs : List FinishStory) (n : ℕ) (old new : FinishStory) → new ≡ old → old ≡ get_or xs n old → set xs n new ≡ xs
finish_kept xs n old new moved read = ap (λ x. set xs n x) (moved ∙ read) ∙ set-get_or xs n old

pub same_finishes : (s : WorldState) (xs : List FinishStory) → xs ≡ s.finishes → record s { finishes = xs } ≡ s
same_finishes s xs e = ap (λ ys. record s { finishes = ys }) e
