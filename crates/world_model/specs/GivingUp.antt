-- When a task may note that its act was refused, or give up what it is about. Either leads to its end.
use Rattle.std.specs.Prelude.{ℕ, Bool, true, false, ◌&&◌, ◌||◌, ◌==◌, not, List, Result, Ok, Err}
use Rattle.std.specs.Option.{option_map_or}
use Rattle.phase_modes.specs.declared.limits.Limits.{Limits}
use Rattle.phase_modes.specs.declared.refusal.Refusal.TheVariants.{NotNow}
use Rattle.phase_modes.specs.declared.refusal.Refusal.{Refusal}
use Rattle.phase_modes.specs.Refusal.{number_of}
use Rattle.world_model.specs.declared.reply.Reply.{Reply}
use Rattle.world_model.specs.declared.event.Tried.{Tried}
use Rattle.world_model.specs.declared.event.WorldEvent.{WorldEvent}
use Rattle.world_model.specs.declared.event.Step.TheVariants.{Reg}
use Rattle.world_model.specs.declared.event.WorldEvent.TheVariants.{Phaser}
use Rattle.world_model.specs.declared.reply.Reply.TheVariants.{Done}
use Rattle.world_model.specs.Acts.{act_reply}
use Rattle.world_model.specs.Due.{next_event, is_idle}
use Rattle.world_model.specs.Continuing.{next_done}

-- the reply is the refusal of this number
abbrev pub is_refused_by : ℕ → Result Reply Refusal → Bool
is_refused_by n (Ok x) = false
is_refused_by n (Err r) = number_of r == n

-- the event registers a child
abbrev pub is_reg : WorldEvent → Bool
is_reg (Phaser n (Reg q t m)) = true
is_reg _ = false

-- t may give up by this number: of another single's number or a full history if the event that
-- continues its act is now refused by it, of full registrations while it still has one to make, of memory
-- if it is idle
abbrev pub may_fail : Limits → List WorldEvent → ℕ → ℕ → Bool
may_fail l w t n =
    ((n == 7 || n == 15) && option_map_or (λ e. is_refused_by n (next_done l w e)) (next_event l t w) false)
    || (n == 14 && option_map_or is_reg (next_event l t w) false)
    || (n == 23 && is_idle t w)

-- t may note that the act is refused by this number: it is, now;
-- a wrong moment and want of memory are never noted
abbrev pub may_refuse : Limits → List WorldEvent → ℕ → Tried → ℕ → Bool
may_refuse l w t a n = is_refused_by n (act_reply l w t a) && not (n == 22) && not (n == 23)

-- the reply to such an entry
abbrev pub done_where : Bool → Result Reply Refusal
done_where true = Ok Done
done_where false = Err NotNow
