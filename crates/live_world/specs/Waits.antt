-- A task that waits, and what it means for a world in which some tasks are parked.
use Rattle.std.specs.Prelude.{ℕ, ◌≡◌, false, List, ◌∷◌, Ok, Some}
use Rattle.phase_modes.specs.declared.limits.Limits.{Limits}
use Rattle.finish_core.specs.declared.event.FinishEvent.TheVariants.{Shut as Shutting}
use Rattle.finish_core.specs.Finish.{all_ended}
use Rattle.world_model.specs.declared.event.WorldEvent.{WorldEvent}
use Rattle.world_model.specs.declared.event.WorldEvent.TheVariants.{Finish}
use Rattle.world_model.specs.declared.reply.Reply.TheVariants.{NotYet}
use Rattle.world_model.specs.Able.{is_able}
use Rattle.world_model.specs.Continuing.{next_done, next_reply}
use Rattle.world_model.specs.Due.{due, next_event, is_idle}
use Rattle.world_model.specs.GivingUp.{is_reg}
use Rattle.world_model.specs.Parts.{finish_past}
use Rattle.world_model.specs.Replies.{reply}

-- the next event of t has to wait
pub record Waits (l : Limits) (w : List WorldEvent) (t : ℕ) : Type 0 where
  pub event : WorldEvent
  pub next : next_event l t w ≡ Some event
  pub answered : next_done l w event ≡ Ok NotYet
  pub continues : reply l w event ≡ next_reply l w event
  pub no_reg : is_reg event ≡ false
  pub busy : is_idle t w ≡ false

-- a task that waits isn't able: none of its events would be made
abbrev pub WaitersAreNotAble : Type 0
WaitersAreNotAble = (l : Limits) (w : List WorldEvent) (t : ℕ) → Waits l w t → is_able l w t ≡ false

-- a task whose next event shuts a finish waits as long as a task in it goes on
abbrev pub ShuttersWait : Type 0
ShuttersWait = (l : Limits) (w : List WorldEvent) (t f : ℕ) (ds : List WorldEvent) → due t w ≡ Finish f Shutting ∷ ds
    → all_ended (finish_past f w) ≡ false → Waits l w t
