-- What a world answers and how it changes if a task sends a value or looks at one, by its state alone.
use Rattle.std.specs.Prelude.{ℕ, true, false, Option, Some, None, Result, Ok, Err, ℤ}
use Rattle.phase_modes.specs.declared.refusal.Refusal.{Refusal}
use Rattle.phase_modes.specs.Refusal.{first_refusal}
use Rattle.phase_model.specs.declared.op.Look.{Look}
use Rattle.phase_model.specs.Replies as phaser
use Rattle.phase_model.specs.Replies.{done_result}
use Rattle.phase_model.specs.declared.call.Call.TheVariants.{Send as send, Look as look}
use Rattle.phase_model.specs.Answers.{look_result}
use Rattle.world_model.specs.declared.reply.Reply.{Reply}
use Rattle.world_model.specs.declared.reply.Reply.TheVariants.{Value}
use Rattle.world_records.specs.WorldState.{WorldState}
use Rattle.world_records.specs.Kept.{task_at, story_at}
use Rattle.world_records.specs.inner.Steps.{first_conditions, phaser_called, with_task, done_by, state_by}
use Rattle.world_records.specs.inner.Begins.{counted}

-- what becomes of an act that may be refused before its phaser is asked
abbrev pub unless_before : {X : Type 0} → Option Refusal → Result X Refusal → Result X Refusal
unless_before None asked = asked
unless_before (Some r) asked = Err r

-- what an act is refused by that gives no number
abbrev pub act_refusal : WorldState → ℕ → Option Refusal
act_refusal s t = first_refusal (first_conditions s t false true)

-- a value that is sent
abbrev pub send_result : WorldState → ℕ → ℕ → ℕ → ℤ → Result (Unit {0}) Refusal
send_result s n t a v =
    unless_before (act_refusal s t) (done_result (phaser.reply (story_at s n) (send t a v)))

abbrev pub send_answer : WorldState → ℕ → ℕ → ℕ → ℤ → Result Reply Refusal
send_answer s n t a v = done_by (send_result s n t a v)

abbrev pub send_state : WorldState → ℕ → ℕ → ℕ → ℤ → WorldState
send_state s n t a v = state_by (send_result s n t a v) s
    (with_task (phaser_called s n (send t a v)) t (counted (task_at s t)))

-- the reply of the world to a look of which the phaser says this
abbrev pub reply_by_look : Result (Look ℤ) Refusal → Result Reply Refusal
reply_by_look (Ok x) = Ok (Value x)
reply_by_look (Err r) = Err r

abbrev pub state_by_look : Result (Look ℤ) Refusal → WorldState → WorldState → WorldState
state_by_look (Ok x) old new = new
state_by_look (Err r) old new = old

abbrev pub looked : WorldState → ℕ → ℕ → ℕ → Result (Look ℤ) Refusal
looked s n t a = unless_before (act_refusal s t) (look_result (phaser.reply (story_at s n) (look t a)))

abbrev pub look_answer : WorldState → ℕ → ℕ → ℕ → Result Reply Refusal
look_answer s n t a = reply_by_look (looked s n t a)

abbrev pub look_state : WorldState → ℕ → ℕ → ℕ → WorldState
look_state s n t a = state_by_look (looked s n t a) s
    (with_task (phaser_called s n (look t a)) t (counted (task_at s t)))
