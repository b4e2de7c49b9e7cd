-- What a run's record stands for: the world, and its history as a trace.
use Rattle.std.specs.Prelude.{suc, ◌≡◌, true, List, [], ◌∷◌, reverse, length, Result, Ok, Err}
use Rattle.phase_modes.specs.declared.limits.Limits.{Limits}
use Rattle.phase_modes.specs.declared.refusal.Refusal.{Refusal}
use Rattle.world_model.specs.declared.event.WorldEvent.{WorldEvent}
use Rattle.world_model.specs.declared.reply.Reply.{Reply}
use Rattle.world_model.specs.declared.reply.Reply.TheVariants.{NotYet}
use Rattle.world_records.specs.StandsFor.{StandsFor}
use Rattle.world_records.specs.WorldState.{WorldState}
use Rattle.trace_model.specs.Run.{Entry, Run}
use Rattle.trace_model.specs.Explained.{past, all_follow}
use Rattle.schedule_run.specs.declared.record.Outcome.{Outcome}
use Rattle.schedule_run.specs.declared.record.Outcome.TheVariants.{Made, Waits, Refused}

-- what becomes of an event, by its reply
abbrev pub outcome_of : Result Reply Refusal → Outcome
outcome_of (Err r) = Refused r
outcome_of (Ok NotYet) = Waits
outcome_of (Ok x) = Made

-- each entry has its place as its ticket, the newest first
abbrev pub Counted : List Entry → Type 0
Counted [] = Unit {0}
Counted (e ∷ es) = (e.0 ≡ suc (length es)) × Counted es

-- the entries, the newest first, are the history, each event with its answer
pub record IsTraced (l : Limits) (w : List WorldEvent) (es : List Entry) : Type 0 where
  pub is : past es ≡ w
  pub follow : all_follow l es ≡ true
  pub counted : Counted es

-- the world and the trace are those of the history
pub record Records (l : Limits) (w : List WorldEvent) (world : WorldState) (trace : Run) : Type 0 where
  pub limits : world.limits ≡ l
  pub stands : StandsFor w world
  pub kept : trace.limits ≡ l
  pub traced : IsTraced l w (reverse trace.events)
