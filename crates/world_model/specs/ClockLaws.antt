-- Laws of clocks: how far a task is on each of its phasers, and that no clock passes what its type holds.
use Rattle.std.specs.Prelude.{ℕ, ◌+◌, ◌*◌, ◌≤◌, ◌≡◌, Bool, true, false, ◌&&◌, ◌==◌, not, if◌then◌else◌, List, Option, Some}
use Rattle.std.specs.List.{list_any}
use Rattle.phase_modes.specs.Lists.{is_empty}
use Rattle.phase_modes.specs.Limits.{limits_fit}
use Rattle.phase_model.specs.Tasks.{is_live}
use Rattle.phase_model.specs.Phases.{waits}
use Rattle.world_model.specs.declared.event.WorldEvent.{WorldEvent}
use Rattle.world_model.specs.declared.event.Step.TheVariants.{Pass}
use Rattle.world_model.specs.declared.event.WorldEvent.TheVariants.{Phaser, Begin, Refuse, Fail}
use Rattle.world_model.specs.Laws.{OfEachWorld}
use Rattle.world_model.specs.Clock.{base, clock, is_turn}
use Rattle.world_model.specs.Due.{due}
use Rattle.world_model.specs.Tasks.{is_born}
use Rattle.world_model.specs.TaskConditions.{last_entry}
use Rattle.world_model.specs.Parts.{phaser_past}

-- the entry begins a turn
abbrev pub begins_turn : Option WorldEvent → Bool
begins_turn (Some (Begin t b)) = is_turn b
begins_turn _ = false

-- the event is a pass of phaser n
abbrev pub is_pass_on : ℕ → WorldEvent → Bool
is_pass_on n (Phaser m (Pass t)) = m == n
is_pass_on n _ = false

-- t has passed phaser n in the turn under way
abbrev pub has_passed : ℕ → ℕ → List WorldEvent → Bool
has_passed t n w =
    begins_turn (last_entry t w) && not (is_empty (due t w)) && not (list_any (is_pass_on n) (due t w))

-- the entry leads to the task's end at once
abbrev pub leads_to_end : Option WorldEvent → Bool
leads_to_end (Some (Refuse t a n)) = true
leads_to_end (Some (Fail t n)) = true
leads_to_end _ = false

-- t's clock, and one more if it has passed phaser n in the turn under way
abbrev pub clock_here : ℕ → ℕ → List WorldEvent → ℕ
clock_here t n w = clock t w + (if has_passed t n w then 1 else 0)

-- on a phaser, a task that goes on has ended as many turns as its clock was raised since the phaser was made,
-- and one more if it has passed in the turn under way;
-- a task that was refused or failed stays where it was
abbrev pub ClocksAgree : Type 0
ClocksAgree = OfEachWorld (λ l w. (t n : ℕ)
    → is_live t (phaser_past n w) ≡ true → is_born t w ≡ true → leads_to_end (last_entry t w) ≡ false
    → waits t (phaser_past n w) + base n w ≡ clock_here t n w)

-- each turn is an act that is counted, and a child goes on from its spawner's clock: so no clock passes the
-- acts that all tasks may begin, 2^28 at most, far below what 32 bits hold
abbrev pub ClocksFit : Type 0
ClocksFit = OfEachWorld (λ l w. limits_fit l ≡ true
    → (t : ℕ) → (clock t w ≤ l.tasks * l.acts) × (clock t w ≤ 268435456))
