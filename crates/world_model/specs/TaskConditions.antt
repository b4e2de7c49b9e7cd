-- What each task is about.
use Rattle.std.specs.Prelude.{ℕ, if◌then◌else◌, List, [], ◌∷◌, Option, Some, None}
use Rattle.world_model.specs.declared.condition.Condition.{Condition}
use Rattle.world_model.specs.declared.event.WorldEvent.{WorldEvent}
use Rattle.world_model.specs.declared.event.Step.TheVariants.{Sig}
use Rattle.world_model.specs.declared.event.Begun.TheVariants.{Async, Signal, Wait, Next, NextSingle, Shut}
use Rattle.world_model.specs.declared.event.WorldEvent.TheVariants.{Phaser, Begin}
use Rattle.world_model.specs.declared.condition.Condition.TheVariants as condition
use Rattle.world_model.specs.Due.{is_entry, due}
use Rattle.world_model.specs.Tasks.{is_born, is_ended}

-- the last entry of t's log
abbrev pub last_entry : ℕ → List WorldEvent → Option WorldEvent
last_entry t [] = None
last_entry t (e ∷ w) = if is_entry t e then Some e else last_entry t w

-- in a turn the signals come first
abbrev pub condition_in_turn : WorldEvent → Condition
condition_in_turn (Phaser n (Sig t x)) = condition.Signalling
condition_in_turn _ = condition.Turning

-- the condition of a task after this entry, with this event due next;
-- after a refusal and after a failure it ends
abbrev pub condition_in : Option WorldEvent → WorldEvent → Condition
condition_in (Some (Begin t (Async c pairs))) d = condition.Spawning
condition_in (Some (Begin t Signal)) d = condition.Signalling
condition_in (Some (Begin t Wait)) d = condition_in_turn d
condition_in (Some (Begin t Next)) d = condition_in_turn d
condition_in (Some (Begin t (NextSingle n))) d = condition_in_turn d
condition_in (Some (Begin t Shut)) d = condition.Shutting
condition_in _ d = condition.Ending

-- with nothing due it is idle
abbrev pub condition_by : Option WorldEvent → List WorldEvent → Condition
condition_by e [] = condition.Idle
condition_by e (d ∷ ds) = condition_in e d

-- the condition of t; a number without a task has none
abbrev pub condition_of : ℕ → List WorldEvent → Option Condition
condition_of t w =
    if is_ended t w then Some condition.Ended
    else (if is_born t w then Some (condition_by (last_entry t w) (due t w))
    else None)
