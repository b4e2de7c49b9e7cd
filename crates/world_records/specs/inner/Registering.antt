-- What a world answers and how it changes at the steps that change who is registered: by its state alone.
use Rattle.std.specs.Prelude.{ℕ, ◌+◌, Bool, true, not, min, List, [], ◌∷◌, ◌++◌, set, Option, Some, None, Result, Err}
use Rattle.phase_modes.specs.Lists.{is_empty}
use Rattle.phase_modes.specs.declared.reg.Mode.{Mode}
use Rattle.phase_modes.specs.declared.refusal.Refusal.{Refusal}
use Rattle.phase_modes.specs.Refusal.{first_refusal}
use Rattle.phase_model.specs.declared.terms.Terms.{Terms}
use Rattle.phase_model.specs.Replies as phaser
use Rattle.phase_model.specs.Replies.{done_result}
use Rattle.phase_model.specs.declared.call.Call.TheVariants.{Make as make}
use Rattle.phase_model.specs.Answers.{made_with}
use Rattle.world_model.specs.declared.reply.Reply.{Reply}
use Rattle.world_records.specs.TaskState.{TaskState}
use Rattle.world_records.specs.WorldState.{WorldState}
use Rattle.world_records.specs.Kept.{task_at, story_at, inner_at}
use Rattle.world_model.specs.ActConditions.{new_conditions}
use Rattle.world_records.specs.inner.Facts.{facts}
use Rattle.world_records.specs.inner.Steps.{first_conditions, done_by, state_by}

-- the conditions of the making of phaser n before the phaser is asked
abbrev pub make_conditions : WorldState → ℕ → ℕ → List (Refusal × Bool)
make_conditions s n t =
    first_conditions s t (not (is_empty (story_at s n).past)) true ++ new_conditions s.limits (facts s t) n

abbrev pub result_unless : Option Refusal → Result (Unit {0}) Refusal → Result (Unit {0}) Refusal
result_unless None u = u
result_unless (Some r) u = Err r

abbrev pub make_result : WorldState → ℕ → ℕ → Mode → Result (Unit {0}) Refusal
make_result s n t m = result_unless (first_refusal (make_conditions s n t))
    (done_result (phaser.reply (story_at s n) (make t m)))

abbrev pub make_answer : WorldState → ℕ → ℕ → Mode → Result Reply Refusal
make_answer s n t m = done_by (make_result s n t m)

-- the line of a task that made phaser n
abbrev pub making : ℕ → TaskState → TaskState
making n k = record k { phasers = k.phasers ++ n ∷ []; acts = min (k.acts + 1) 4294967295 }

-- the state after phaser n was asked to be made
abbrev pub phaser_made : WorldState → ℕ → ℕ → Mode → Terms → WorldState
phaser_made s n t m terms = record s
    { phasers = set s.phasers n (made_with (story_at s n) terms (phaser.reply (story_at s n) (make t m))) }

abbrev pub made : WorldState → ℕ → ℕ → Mode → Terms → WorldState
made s n t m terms = record (phaser_made s n t m terms) {
  enclosing = set s.enclosing n (inner_at (task_at s t));
  tasks = set s.tasks t (making n (task_at s t));
}

abbrev pub make_state : WorldState → ℕ → ℕ → Mode → Terms → WorldState
make_state s n t m terms = state_by (make_result s n t m) s (made s n t m terms)
