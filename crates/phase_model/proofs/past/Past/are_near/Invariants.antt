use Rattle.std.proofs.Common.{◌≡◌, Some, length}
use Rattle.std.specs.List.{filter, list_all}
use Rattle.phase_model.specs.Tasks.{is_live, registered_tasks}
use Rattle.phase_model.specs.Phases.{is_near, is_within_bound}
use Rattle.phase_model.proofs.past.Past.are_near.Given as goal

abbrev pub invariant-loop-event : goal.invariant-loop-event
invariant-loop-event l =
    is_within_bound (Some l.bound) l.phase l.self
    ≡ list_all (is_near l.bound l.phase l.self) (filter (λ t. is_live t l.self) (registered_tasks l.rest))

abbrev pub decreases-loop-event : goal.decreases-loop-event
decreases-loop-event l = length l.rest
