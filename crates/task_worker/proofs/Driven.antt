-- An act of a task that has seen and knows the same is its own.
use Rattle.std.proofs.Common.{◌≡◌, subst}
use Rattle.std.specs.Prelude.{List}
use Rattle.task_standing.specs.Known.{Known}
use Rattle.table_receipts.specs.Logs.{Sight}
use Rattle.tasks_in_flight.specs.inner.GoingOn.{HasActed}
use Rattle.task_worker.specs.inner.Driven.{Replies}

pub acts_since : (fs gs : List Sight) (mid k k' : Known) → gs ≡ fs → mid ≡ k → HasActed (Replies gs) mid k' → HasActed (Replies fs) k k'
acts_since fs gs mid k k' fronts same acted =
    subst (λ (x : Known). HasActed (Replies fs) x k') same
    (subst (λ (xs : List Sight). HasActed (Replies xs) mid k') fronts acted)
