-- The reply to an event that continues an act.
use Rattle.std.specs.Prelude.{ℕ, Bool, true, false, ◌&&◌, ◌==◌, if◌then◌else◌, List, Option, Some, None, Result, Err}
use Rattle.std.specs.Option.{option_map_or}
use Rattle.phase_modes.specs.declared.limits.Limits.{Limits}
use Rattle.phase_modes.specs.declared.reg.Mode.{Mode}
use Rattle.phase_modes.specs.declared.refusal.Refusal.TheVariants.{NotNow}
use Rattle.phase_modes.specs.declared.refusal.Refusal.{Refusal}
use Rattle.phase_modes.specs.Mode.{is_within}
use Rattle.finish_core.specs.declared.event.FinishEvent.{FinishEvent}
use Rattle.finish_core.specs.declared.event.FinishEvent.TheVariants.{Spawned, Ended, Shut as Shutting}
use Rattle.world_model.specs.declared.reply.Reply.{Reply}
use Rattle.world_model.specs.declared.event.Step.{Step}
use Rattle.world_model.specs.declared.event.WorldEvent.{WorldEvent}
use Rattle.world_model.specs.declared.event.Step.TheVariants.{Reg, Sig, Claim, Did, Pass, Drop}
use Rattle.world_model.specs.declared.event.WorldEvent.TheVariants.{Phaser, Finish}
use Rattle.world_model.specs.Actors.{actor}
use Rattle.world_model.specs.PartReplies.{phaser_reply, finish_reply}
use Rattle.world_model.specs.Due.{next_event}

-- two events that continue an act are the same
abbrev pub same_number : Option ℕ → Option ℕ → Bool
same_number None None = true
same_number (Some n) (Some m) = n == m
same_number _ _ = false

abbrev pub same_mode : Mode → Mode → Bool
same_mode m n = is_within m n && is_within n m

abbrev pub same_step : Step → Step → Bool
same_step (Reg q t m) (Reg r u n) = q == r && t == u && same_mode m n
same_step (Sig t x) (Sig u y) = t == u && same_number x y
same_step (Claim t) (Claim u) = t == u
same_step (Did t) (Did u) = t == u
same_step (Pass t) (Pass u) = t == u
same_step (Drop t) (Drop u) = t == u
same_step _ _ = false

abbrev pub same_finish_event : FinishEvent → FinishEvent → Bool
same_finish_event (Spawned t) (Spawned u) = t == u
same_finish_event (Ended t) (Ended u) = t == u
same_finish_event Shutting Shutting = true
same_finish_event _ _ = false

abbrev pub same_event : WorldEvent → WorldEvent → Bool
same_event (Phaser n s) (Phaser m r) = n == m && same_step s r
same_event (Finish f e) (Finish g d) = f == g && same_finish_event e d
same_event _ _ = false

-- what its phaser or its finish replies to the event that continues an act
abbrev pub next_done : Limits → List WorldEvent → WorldEvent → Result Reply Refusal
next_done l w (Phaser n s) = phaser_reply l w n s
next_done l w (Finish f e) = finish_reply l w f e
next_done l w _ = Err NotNow

-- the reply to an event that is to continue an act: any other than the one that is next is refused
abbrev pub next_reply : Limits → List WorldEvent → WorldEvent → Result Reply Refusal
next_reply l w e =
    if option_map_or (λ d. same_event d e) (next_event l (actor w e) w) false then next_done l w e
    else Err NotNow
