-- What a world replies to an event, and which histories are legal.
use Rattle.std.specs.Prelude.{Bool, true, false, ◌&&◌, if◌then◌else◌, List, [], ◌∷◌, Result, Ok, Err}
use Rattle.phase_modes.specs.declared.limits.Limits.{Limits}
use Rattle.phase_modes.specs.declared.refusal.Refusal.{Refusal}
use Rattle.finish_core.specs.declared.event.FinishEvent.TheVariants.{Opened}
use Rattle.world_model.specs.declared.reply.Reply.{Reply}
use Rattle.world_model.specs.declared.event.WorldEvent.{WorldEvent}
use Rattle.world_model.specs.declared.event.Step.TheVariants.{Make, Send, Look}
use Rattle.world_model.specs.declared.event.Tried.TheVariants.{Begun as Beginning, New, Open, Send as Sending, Look as Looking}
use Rattle.world_model.specs.declared.event.WorldEvent.TheVariants.{Phaser, Finish, Begin, Refuse, Fail}
use Rattle.world_model.specs.declared.reply.Reply.TheVariants.{NotYet}
use Rattle.world_model.specs.Acts.{act_reply}
use Rattle.world_model.specs.GivingUp.{may_fail, may_refuse, done_where}
use Rattle.world_model.specs.Continuing.{next_reply}

-- the reply to an event
abbrev pub reply : Limits → List WorldEvent → WorldEvent → Result Reply Refusal
reply l w (Phaser n (Make t m terms)) = act_reply l w t (New n m terms)
reply l w (Phaser n (Send t a v)) = act_reply l w t (Sending n a v)
reply l w (Phaser n (Look t a)) = act_reply l w t (Looking n a)
reply l w (Finish f (Opened t)) = act_reply l w t (Open f)
reply l w (Begin t b) = act_reply l w t (Beginning b)
reply l w (Refuse t a n) = done_where (may_refuse l w t a n)
reply l w (Fail t n) = done_where (may_fail l w t n)
reply l w e = next_reply l w e

-- an event with this reply is made
abbrev pub is_made : Result Reply Refusal → Bool
is_made (Err r) = false
is_made (Ok NotYet) = false
is_made (Ok x) = true

-- the event may follow the history
abbrev pub is_accepted : Limits → List WorldEvent → WorldEvent → Bool
is_accepted l w e = is_made (reply l w e)

-- each event may follow what came before it
abbrev pub is_legal_world : Limits → List WorldEvent → Bool
is_legal_world l [] = true
is_legal_world l (e ∷ w) = is_accepted l w e && is_legal_world l w

-- the history after a reply: what isn't made changes nothing
abbrev pub after : List WorldEvent → WorldEvent → Result Reply Refusal → List WorldEvent
after w e r = if is_made r then e ∷ w else w

-- the replies to a list of events, each handed in where the one before it left the world
abbrev pub replies : Limits → List WorldEvent → List WorldEvent → List (Result Reply Refusal)
replies l w [] = []
replies l w (e ∷ es) = reply l w e ∷ replies l (after w e (reply l w e)) es
