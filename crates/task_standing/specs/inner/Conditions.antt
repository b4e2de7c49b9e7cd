-- What is asked of a task that tries an act, by what the task knows of itself.
use Rattle.std.specs.Prelude.{ℕ, Bool, false, ◌==◌, List, ◌∷◌, length, find, Option, is_some}
use Rattle.std.specs.List.{list_any, list_all}
use Rattle.std.specs.Option.{option_map_or}
use Rattle.phase_modes.specs.Lists.{is_empty}
use Rattle.phase_modes.specs.Mode.{can_single, is_within}
use Rattle.phase_modes.specs.declared.limits.Limits.{Limits}
use Rattle.phase_modes.specs.declared.refusal.Refusal.{Refusal}
use Rattle.world_model.specs.declared.event.Tried.{Tried}
use Rattle.world_model.specs.ActConditions.{Facts, is_counted, count_condition, own_conditions}
use Rattle.task_standing.specs.declared.held.Held.{Held}
use Rattle.task_standing.specs.Known.{Known}
use Rattle.task_standing.specs.Standing.{owes, inner_of}

-- what is known of phaser n
abbrev pub held_on : ℕ → Known → Option Held
held_on n k = find (λ h. h.phaser == n) k.holding

-- what is asked of the task
abbrev pub facts : Known → Facts
facts k = record {
  is_on = λ n. is_some (held_on n k);
  may_give = λ m n. option_map_or (λ h. is_within m h.mode) (held_on n k) false;
  is_inside = λ n. option_map_or (λ h. h.finish == inner_of k) (held_on n k) false;
  phasers = length k.holding;
  leads = list_any (λ h. h.ahead) k.holding;
  owes = list_any owes k.holding;
  has_singles = list_all (λ h. can_single h.mode) k.holding;
  all_shut = is_empty k.finishes;
  acts = k.acts;
}

-- the conditions of an act that may be tried now, and whose number is free
abbrev pub try_conditions : Limits → Known → Tried → List (Refusal × Bool)
try_conditions l k a = count_condition l (facts k) (is_counted a) ∷ own_conditions l (facts k) a
