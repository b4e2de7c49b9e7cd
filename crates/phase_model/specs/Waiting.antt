-- Who waits, and which events can wake a waiting task.
use Rattle.std.specs.Prelude.{ℕ, ◌≡◌, Bool, true, false, ◌&&◌, not, ◌∷◌, Option, Some}
use Rattle.phase_model.specs.declared.history.Event.{Event}
use Rattle.phase_model.specs.declared.history.Event.TheVariants.{Sig, Did, Pass as Passed, Drop}
use Rattle.phase_model.specs.Tasks.{is_live}
use Rattle.phase_model.specs.Phases.{waits, is_closed}
use Rattle.phase_model.specs.Rules.{Story, with_event, is_legal}
use Rattle.phase_model.specs.declared.call.Call.TheVariants.{Signal as signal, Pass as pass}
use Rattle.phase_model.specs.Replies.{Reply, refused, not_yet, done, reply}
use Rattle.phase_model.specs.Laws.{IsLegal}

-- the reply is: not yet
abbrev pub is_not_yet : Reply → Bool
is_not_yet (refused r) = false
is_not_yet not_yet = true
is_not_yet (done e) = false

-- a pass of t would be answered not yet: t waits to pass
abbrev pub would_wait : Story → ℕ → Bool
would_wait s t = is_not_yet (reply s (pass t))

-- t is registered, and the phase at which it stands isn't closed
abbrev pub is_in_open_phase : Story → ℕ → Bool
is_in_open_phase s t = is_live t s.past && not (is_closed (waits t s.past) s.past)

-- the events that can wake a task that waits to pass: a signal, a single's report, and a drop
abbrev pub can_free : Event → Bool
can_free (Sig t x) = true
can_free (Did t) = true
can_free (Drop t) = true
can_free _ = false

-- after any other event of a legal history, who waited to pass before waits on
abbrev pub OthersFreeNobody : Type 0
OthersFreeNobody = (s : Story) (e : Event) (t : ℕ) → is_legal s.limits s.terms (e ∷ s.past) ≡ true
    → can_free e ≡ false → would_wait s t ≡ true → would_wait (with_event s e) t ≡ true

-- in a legal story all who wait to pass stand at the same phase, whether for its signals or for its single
abbrev pub AllWaitInOnePhase : Type 0
AllWaitInOnePhase = (s : Story) (t u : ℕ) → IsLegal s
    → would_wait s t ≡ true → would_wait s u ≡ true → waits t s.past ≡ waits u s.past

-- a signal of t would be answered not yet: t waits to signal
abbrev pub signal_would_wait : Story → ℕ → Option ℕ → Bool
signal_would_wait s t x = is_not_yet (reply s (signal t x))

-- the events that can wake a task that waits to signal, if only to be refused: a proposal, a pass, and a drop
abbrev pub can_free_signal : Event → Bool
can_free_signal (Sig t (Some n)) = true
can_free_signal (Passed t) = true
can_free_signal (Drop t) = true
can_free_signal _ = false

-- after any other event of a legal history, who waited to signal before waits on
abbrev pub OthersFreeNoSignaller : Type 0
OthersFreeNoSignaller = (s : Story) (e : Event) (t : ℕ) (x : Option ℕ)
    → is_legal s.limits s.terms (e ∷ s.past) ≡ true → can_free_signal e ≡ false
    → signal_would_wait s t x ≡ true → signal_would_wait (with_event s e) t x ≡ true
