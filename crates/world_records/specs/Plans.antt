-- What a task's plan may be, by its last entry and the phasers that it has left.
use Rattle.std.specs.Prelude.{ℕ, Bool, true, false, ◌==◌, not, List, Option, Some}
use Rattle.phase_modes.specs.Lists.{is_empty}
use Rattle.world_model.specs.declared.event.WorldEvent.{WorldEvent}
use Rattle.world_model.specs.declared.event.WorldEvent.TheVariants.{Begin, Refuse, Fail}
use Rattle.world_model.specs.declared.event.Begun.TheVariants.{Async, Signal, Next, NextSingle, Shut, End}
use Rattle.world_model.specs.Clock.{is_turn}
use Rattle.world_records.specs.declared.plan.Plan.{Plan}
use Rattle.world_records.specs.declared.plan.Plan.TheVariants as plan

-- the plan is one that the task's last entry leads to
abbrev pub fits_plan : Plan → Option WorldEvent → Bool
fits_plan plan.Idle e = true
fits_plan (plan.Signalling x turn) (Some (Begin t Signal)) = not turn
fits_plan (plan.Signalling x turn) (Some (Begin t Next)) = turn
fits_plan (plan.Signalling x turn) (Some (Begin t (NextSingle n))) = turn
fits_plan plan.Turning (Some (Begin t b)) = is_turn b
fits_plan (plan.Spawning c pairs made) (Some (Begin t (Async d ps))) = c == d
fits_plan plan.Shutting (Some (Begin t Shut)) = true
fits_plan (plan.Ending c) (Some (Begin t End)) = true
fits_plan (plan.Ending c) (Some (Refuse t a n)) = true
fits_plan (plan.Ending c) (Some (Fail t n)) = true
fits_plan _ _ = false

-- a plan to signal or to pass has a phaser left, and an idle one none
abbrev pub has_left : Plan → List ℕ → Bool
has_left plan.Idle left = is_empty left
has_left (plan.Signalling x turn) left = not (is_empty left)
has_left plan.Turning left = not (is_empty left)
has_left _ left = true
