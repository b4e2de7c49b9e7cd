-- One event of a finish more.
use Rattle.std.proofs.Common.{◌≡◌, ℕ, ◌+◌, ◌<◌, List, length, reverse, take, get_or, ap}
use Rattle.finish_core.specs.declared.event.FinishEvent.{FinishEvent}
use Rattle.finish_core.specs.Finish.{spawned_tasks}
use Rattle.std.specs.Prelude.{◌∷◌}
use Rattle.phase_model.proofs.Reversed.{reverse_take_more}

pub spawned_more : (xs : List FinishEvent) (i : ℕ) (d : FinishEvent) → i < length xs
    → length (spawned_tasks (reverse (take (i + 1) xs))) ≡ length (spawned_tasks (get_or xs i d ∷ reverse (take i xs)))
spawned_more xs i d within = ap (λ h. length (spawned_tasks h)) (reverse_take_more xs i d within)
