-- What is asked of a task that tries an act, by the world's state.
use Rattle.std.specs.Prelude.{ℕ, Bool, false, ◌&&◌, ◌==◌, not, List, length, get_or, is_some}
use Rattle.std.specs.List.{list_any}
use Rattle.std.specs.Option.{option_map_or}
use Rattle.phase_modes.specs.Mode.{can_signal, can_single, is_within}
use Rattle.phase_modes.specs.declared.reg.Mode.{Mode}
use Rattle.phase_model.specs.declared.history.Event.{Event}
use Rattle.phase_model.specs.Registration.{registration}
use Rattle.world_model.specs.ActConditions.{Facts}
use Rattle.world_records.specs.WorldState.{WorldState}
use Rattle.world_records.specs.Kept.{task_at, inner_at, past_in}

-- a task that is registered now has signalled since its last turn
abbrev pub leads : ℕ → List Event → Bool
leads t h = option_map_or (λ r. r.ahead) (registration t h) false

-- a task that is registered now owes a signal if it can signal and isn't ahead
abbrev pub owes : ℕ → List Event → Bool
owes t h = option_map_or (λ r. can_signal r.mode && not r.ahead) (registration t h) false

-- a task that is registered now, in a mode that has singles
abbrev pub has_single : ℕ → List Event → Bool
has_single t h = option_map_or (λ r. can_single r.mode) (registration t h) false

-- a task that is registered now, in a mode within which this one is
abbrev pub may_give : Mode → ℕ → List Event → Bool
may_give m t h = option_map_or (λ r. is_within m r.mode) (registration t h) false

-- on one of its phasers this holds of the task
abbrev pub holds_somewhere : (ℕ → List Event → Bool) → WorldState → ℕ → Bool
holds_somewhere p s t = list_any (λ n. p t (past_in s.phasers n)) (task_at s t).phasers

-- what is asked of task t
abbrev pub facts : WorldState → ℕ → Facts
facts s t = record {
  is_on = λ n. is_some (registration t (past_in s.phasers n));
  may_give = λ m n. may_give m t (past_in s.phasers n);
  is_inside = λ n. get_or s.enclosing n 0 == inner_at (task_at s t);
  phasers = length (task_at s t).phasers;
  leads = holds_somewhere leads s t;
  owes = holds_somewhere owes s t;
  has_singles = not (holds_somewhere (λ u h. not (has_single u h)) s t);
  all_shut = not (is_some (task_at s t).innermost);
  acts = (task_at s t).acts;
}
