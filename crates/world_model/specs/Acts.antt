-- What is replied if a task tries an act: what its history answers to the conditions of the act, and what then becomes of it.
use Rattle.std.specs.Prelude.{ℕ, Bool, false, ◌==◌, not, List, ◌∷◌, length, Option, Some, None, Result, Ok, Err}
use Rattle.std.specs.List.{list_any, list_all}
use Rattle.phase_modes.specs.declared.refusal.Refusal.TheVariants.{NotNow}
use Rattle.phase_modes.specs.declared.limits.Limits.{Limits}
use Rattle.phase_modes.specs.declared.refusal.Refusal.{Refusal}
use Rattle.phase_modes.specs.Mode.{can_single}
use Rattle.phase_modes.specs.Refusal.{first_refusal}
use Rattle.phase_modes.specs.Lists.{is_empty}
use Rattle.phase_model.specs.Tasks.{is_live, has_mode}
use Rattle.phase_model.specs.Conditions.{is_within_task}
use Rattle.finish_core.specs.declared.event.FinishEvent.TheVariants.{Opened}
use Rattle.world_model.specs.declared.reply.Reply.{Reply}
use Rattle.world_model.specs.declared.event.Tried.{Tried}
use Rattle.world_model.specs.declared.event.WorldEvent.{WorldEvent}
use Rattle.world_model.specs.declared.event.Step.TheVariants.{Make, Send, Look}
use Rattle.world_model.specs.declared.event.Begun.TheVariants.{Async}
use Rattle.world_model.specs.declared.event.Tried.TheVariants.{Begun as Beginning, New, Open, Send as Sending, Look as Looking}
use Rattle.world_model.specs.declared.reply.Reply.TheVariants.{Done}
use Rattle.world_model.specs.Tasks.{phasers_of, acts}
use Rattle.world_model.specs.Scopes.{inner, enclosing, open_finishes}
use Rattle.world_model.specs.PartReplies.{phaser_reply, finish_reply}
use Rattle.world_model.specs.Due.{is_ahead, is_idle, is_behind}
use Rattle.world_model.specs.Numbers.{is_named, is_finish, is_phaser}
use Rattle.world_model.specs.Parts.{phaser_past}
use Rattle.world_model.specs.ActConditions.{Facts, is_counted, count_condition, own_conditions}

-- the number that the act wants to give is in use
abbrev pub is_number_used : List WorldEvent → Tried → Bool
is_number_used w (New n m terms) = is_phaser n w
is_number_used w (Open f) = is_finish f w
is_number_used w (Beginning (Async c pairs)) = is_named c w
is_number_used w _ = false

-- what is asked of t, by the history
abbrev pub facts : List WorldEvent → ℕ → Facts
facts w t = record {
  is_on = λ n. is_live t (phaser_past n w);
  may_give = λ m n. is_within_task m t (phaser_past n w);
  is_inside = λ n. enclosing n w == inner t w;
  phasers = length (phasers_of t w);
  leads = list_any (λ n. is_ahead t (phaser_past n w)) (phasers_of t w);
  owes = list_any (λ n. is_behind t (phaser_past n w)) (phasers_of t w);
  has_singles = list_all (λ n. has_mode can_single t (phaser_past n w)) (phasers_of t w);
  all_shut = is_empty (open_finishes t w);
  acts = acts t w;
}

-- all conditions of an act
abbrev pub act_conditions : Limits → List WorldEvent → ℕ → Tried → List (Refusal × Bool)
act_conditions l w t a =
    (NotNow, is_idle t w)
    ∷ (NotNow, not (is_number_used w a))
    ∷ count_condition l (facts w t) (is_counted a)
    ∷ own_conditions l (facts w t) a

-- the reply to an act that meets them all: a phaser or a finish may refuse it still
abbrev pub act_done : Limits → List WorldEvent → ℕ → Tried → Result Reply Refusal
act_done l w t (Beginning b) = Ok Done
act_done l w t (New n m terms) = phaser_reply l w n (Make t m terms)
act_done l w t (Open f) = finish_reply l w f (Opened t)
act_done l w t (Sending n a v) = phaser_reply l w n (Send t a v)
act_done l w t (Looking n a) = phaser_reply l w n (Look t a)

abbrev pub unless : Option Refusal → Result Reply Refusal → Result Reply Refusal
unless (Some r) done = Err r
unless None done = done

-- the reply to an act that t tries
abbrev pub act_reply : Limits → List WorldEvent → ℕ → Tried → Result Reply Refusal
act_reply l w t a = unless (first_refusal (act_conditions l w t a)) (act_done l w t a)
