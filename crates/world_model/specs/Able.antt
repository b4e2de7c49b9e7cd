-- Which tasks can go on, and when all are stuck.
use Rattle.std.specs.Prelude.{ℕ, ◌≡◌, Bool, true, false, ◌&&◌, ◌==◌, not, List, ◌∷◌, filter_map, Option, Some, None, option_to_list}
use Rattle.std.specs.List.{list_any}
use Rattle.phase_modes.specs.declared.limits.Limits.{Limits}
use Rattle.finish_core.specs.declared.event.FinishEvent.TheVariants.{Spawned}
use Rattle.world_model.specs.declared.event.WorldEvent.{WorldEvent}
use Rattle.world_model.specs.declared.event.WorldEvent.TheVariants.{Finish, Fail}
use Rattle.world_model.specs.Actors.{actor}
use Rattle.world_model.specs.Replies.{is_accepted}
use Rattle.world_model.specs.Tasks.{is_ended}
use Rattle.world_model.specs.Due.{next_event}

-- a task is able if it hasn't ended and some event of its own is accepted
abbrev pub IsAble : Limits → List WorldEvent → ℕ → Type 0
IsAble l w t = (is_ended t w ≡ false) × (e : WorldEvent) × (actor w e ≡ t) × (is_accepted l w e ≡ true)

-- the events of which one is accepted if any of t's is: to give up, or to go on
abbrev pub candidates : Limits → List WorldEvent → ℕ → List WorldEvent
candidates l w t = Fail t 7 ∷ Fail t 14 ∷ Fail t 15 ∷ Fail t 23 ∷ option_to_list (next_event l t w)

-- the same as `IsAble`, computed
abbrev pub is_able : Limits → List WorldEvent → ℕ → Bool
is_able l w t = not (is_ended t w) && list_any (λ e. actor w e == t && is_accepted l w e) (candidates l w t)

-- the task that the event spawns
abbrev pub born_by : WorldEvent → Option ℕ
born_by (Finish f (Spawned t)) = Some t
born_by _ = None

-- the root, and the tasks that were spawned
abbrev pub tasks : List WorldEvent → List ℕ
tasks w = 0 ∷ filter_map born_by w

-- some task hasn't ended, and none is able
abbrev pub is_stuck : Limits → List WorldEvent → Bool
is_stuck l w = list_any (λ t. not (is_ended t w)) (tasks w) && not (list_any (is_able l w) (tasks w))
