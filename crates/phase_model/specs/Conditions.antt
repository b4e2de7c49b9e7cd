-- What each call asks of the history before it.
use Rattle.std.specs.Prelude.{ℕ, ◌+◌, Bool, false, ◌&&◌, ◌||◌, ◌==◌, not, nat_lt, List, [], ◌∷◌, length, Option, Some, None, is_some}
use Rattle.phase_modes.specs.declared.reg.Mode.{Mode}
use Rattle.phase_modes.specs.declared.limits.Limits.{Limits}
use Rattle.phase_modes.specs.declared.refusal.Refusal.{Refusal}
use Rattle.phase_modes.specs.declared.refusal.Refusal.TheVariants.{NotRegistered, NoSignal, NoWait, NoSingle, AlreadySignalled, NotSignalled, SingleMismatch, NoAccumulator, NoPhaseYet, MoreThanParent, RegisteredTwice, RegsFull, TasksFull, NotNow}
use Rattle.phase_modes.specs.Lists.{is_empty}
use Rattle.phase_modes.specs.Mode.{can_signal, can_wait, can_single, is_within}
use Rattle.phase_model.specs.declared.history.Event.{Event}
use Rattle.phase_model.specs.declared.terms.Terms.{Terms}
use Rattle.phase_model.specs.declared.call.Call.{Call}
use Rattle.phase_model.specs.declared.call.Call.TheVariants.{Make as make, Register as register, Signal as signal, Pass as pass, SingleDone as single_done, Send as send, Look as look, Drop as drop_task}
use Rattle.phase_model.specs.Tasks.{is_registered, is_live, has_mode, live_count}
use Rattle.phase_model.specs.Phases.{waits, signals}
use Rattle.phase_model.specs.Singles.{is_mismatch, has_claimed, is_done, owes_nothing}

-- the mode is within the mode of q
abbrev pub is_within_task : Mode → ℕ → List Event → Bool
is_within_task m q h = has_mode (λ n. is_within m n) q h

-- another number than this one stands for phase p
abbrev pub is_other_proposed : Option ℕ → ℕ → List Event → Bool
is_other_proposed None p h = false
is_other_proposed (Some n) p h = is_mismatch n p h

-- the conditions of a call, in the order in which they are asked, each with the refusal if it is not met
abbrev pub conditions : Limits → Terms → List Event → Call → List (Refusal × Bool)
conditions l terms h (make t m) =
    (NotNow, is_empty h)
    ∷ (TasksFull, nat_lt t l.tasks)
    ∷ []
conditions l terms h (register q t m) =
    (NotRegistered, is_live q h)
    ∷ (MoreThanParent, is_within_task m q h)
    ∷ (TasksFull, nat_lt t l.tasks)
    ∷ (RegisteredTwice, not (is_registered t h))
    ∷ (RegsFull, nat_lt (live_count h) l.regs)
    ∷ []
conditions l terms h (signal t x) =
    (NotRegistered, is_live t h)
    ∷ (NoSignal, has_mode can_signal t h)
    ∷ (NoSingle, not (is_some x && not (has_mode can_single t h)))
    ∷ (AlreadySignalled, signals t h == waits t h)
    ∷ (SingleMismatch, not (is_other_proposed x (signals t h) h))
    ∷ []
conditions l terms h (pass t) =
    (NotRegistered, is_live t h)
    ∷ (NotSignalled, not (has_mode can_signal t h) || (signals t h == waits t h + 1))
    ∷ []
conditions l terms h (single_done t) =
    (NotRegistered, is_live t h)
    ∷ (NotNow, has_claimed t (waits t h) h)
    ∷ (NotNow, not (is_done (waits t h) h))
    ∷ []
conditions l terms h (send t a v) =
    (NotRegistered, is_live t h)
    ∷ (NoSignal, has_mode can_signal t h)
    ∷ (NoAccumulator, nat_lt a (length terms.ops))
    ∷ []
conditions l terms h (look t a) =
    (NotRegistered, is_live t h)
    ∷ (NoWait, has_mode can_wait t h)
    ∷ (NoAccumulator, nat_lt a (length terms.ops))
    ∷ (NoPhaseYet, nat_lt 0 (waits t h))
    ∷ []
conditions l terms h (drop_task t) =
    (NotRegistered, is_live t h)
    ∷ (NotNow, owes_nothing t h)
    ∷ []
