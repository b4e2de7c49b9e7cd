-- Laws of going on: what continues an act, who is able, and that nobody is ever stuck.
use Rattle.std.specs.Prelude.{ℕ, ◌≡◌, ◌↔◌, Bool, true, false, List, Some, Result, Ok, Err}
use Rattle.phase_modes.specs.declared.refusal.Refusal.TheVariants.{SingleMismatch, RegsFull, HistoryFull}
use Rattle.phase_modes.specs.declared.limits.Limits.{Limits}
use Rattle.phase_modes.specs.declared.refusal.Refusal.{Refusal}
use Rattle.world_model.specs.declared.reply.Reply.{Reply}
use Rattle.world_model.specs.declared.event.WorldEvent.{WorldEvent}
use Rattle.world_model.specs.Able.{IsAble, is_able, is_stuck}
use Rattle.world_model.specs.Laws.{OfEachWorld}
use Rattle.world_model.specs.Actors.{actor}
use Rattle.world_model.specs.Tasks.{is_ended}
use Rattle.world_model.specs.Continuing.{next_done}
use Rattle.world_model.specs.Due.{next_event}

-- whether a task can go on, as it is computed, is that some event of its own is accepted
abbrev pub AbleIsComputed : Type 0
AbleIsComputed = (l : Limits) (w : List WorldEvent) (t : ℕ) → (is_able l w t ≡ true) ↔ IsAble l w t

-- a reply to an event that continues an act: it is made or has to wait, or it is refused because another
-- number stands, registrations are at the limit, or the history is full
abbrev pub is_expected : Result Reply Refusal → Bool
is_expected (Ok x) = true
is_expected (Err SingleMismatch) = true
is_expected (Err RegsFull) = true
is_expected (Err HistoryFull) = true
is_expected (Err _) = false

-- what continues the act of a task that hasn't ended is the task's own event,
-- and is refused for no other reason
abbrev pub NextsAreExpected : Type 0
NextsAreExpected = OfEachWorld (λ l w. (t : ℕ) (e : WorldEvent)
    → is_ended t w ≡ false → next_event l t w ≡ Some e
    → (actor w e ≡ t) × (is_expected (next_done l w e) ≡ true))

-- as long as some task hasn't ended, some task is able
abbrev pub NobodyIsStuck : Type 0
NobodyIsStuck = OfEachWorld (λ l w. is_stuck l w ≡ false)
