-- What a task knows once its call has returned.
use Rattle.std.specs.Prelude.{◌≡◌, ℕ, ℤ, ◌+◌, Bool, true, false, List, [], ◌∷◌, Option, Some, None}
use Rattle.told_history.specs.Tails.{IsTail}
use Rattle.phase_model.specs.declared.history.Event.{Event}
use Rattle.phase_model.specs.declared.history.Event.TheVariants.{Send}
use Rattle.phase_model.specs.declared.call.Call.{Call}
use Rattle.phase_model.specs.Replies.{Reply}
use Rattle.level_phaser.specs.declared.view.SeatedTask.{SeatedTask}
use Rattle.level_phaser.specs.declared.view.SeatView.{SeatView}
use Rattle.level_phaser.specs.declared.round.GivenSend.{GivenSend}
use Rattle.level_phaser.specs.Deeds.{deeds_of}
use Rattle.level_phaser.specs.Views.{gone_on, with_seen}

module _ {S : Type 0} (events : S → List Event) (registered : ℕ → S → Bool) (ready : ℕ → S → Type 0) where
  -- each of these tasks is registered, and did just what it is said to have done
  abbrev pub AreSeated : List SeatedTask → S → Type 0
  AreSeated [] x = Unit {0}
  AreSeated (c ∷ cs) x = (registered c.task x ≡ true) × (deeds_of c.task (events x) ≡ c.deeds)
      × AreSeated cs x

  -- The seat's tasks stand in the next phase. Each has sent what its row showed, and signalled once more. What it has
  -- seen now goes on from what it had seen before. It is the history of a time at which all stood level in that phase,
  -- and its tasks had done in it just what their calls did, each value once.
  abbrev pub GoneOn : SeatView S → SeatView S → Type 0
  GoneOn v w =
      (x : S) × (w ≡ gone_on v (events x)) × IsTail v.seen (events x) × ready (v.phase + 1) x
      × AreSeated w.tasks x

  -- The table was closed, in the phase of the seat's tasks. At some time after what they had seen all stood level in this
  -- phase, and they had done just what their calls did: so none of them has signalled it, and what they show isn't sent.
  abbrev pub IsClosed : SeatView S → Type 0
  IsClosed v = (x : S) × IsTail v.seen (events x) × ready v.phase x × AreSeated v.tasks x

  -- One event more ends a history that goes on from what was seen before: so much is seen now, and nothing else
  -- changed. Before that event the seat's tasks had done in it just what their calls did: so it counts once.
  abbrev pub HasSent : Event → SeatView S → SeatView S → Type 0
  HasSent e v w =
      (x : S) × IsTail v.seen (events x) × AreSeated v.tasks x × (w ≡ with_seen v (e ∷ events x))

  -- the value that the task kept is sent, and it keeps none any more
  abbrev pub HasToldKept : ℕ → Option GivenSend → Option GivenSend → SeatView S → SeatView S → Type 0
  HasToldKept task before now v w =
      (g : GivenSend) × (before ≡ Some g) × (now ≡ None) × HasSent (Send task g.accumulator g.value) v w

  -- at some time after what was seen before, and before what is seen now, the task wasn't registered any more
  abbrev pub HasLeft : ℕ → SeatView S → SeatView S → Type 0
  HasLeft task v w =
      (w.tasks ≡ []) × (x : S) × IsTail v.seen (events x) × (registered task x ≡ false)
      × IsTail (events x) w.seen

-- the task keeps this value, and kept none before; nothing else has changed for it
abbrev pub HasKept : {S : Type 0} → ℕ → ℕ → ℤ → Option GivenSend → Option GivenSend → SeatView S → SeatView S → Type 0
HasKept task a x before now v w =
    (before ≡ None) × (now ≡ Some (record { task = task; value = x; accumulator = a })) × (w ≡ v)

-- the call was answered so by the phaser, with a history that goes on from what was seen
abbrev pub IsReplied : {S : Type 0} → (S → List Event) → (S → Call → Reply) → (Reply → Type 0) → Call → SeatView S
    → Type 0
IsReplied {S} events replies Is call v = (x : S) × IsTail v.seen (events x) × Is (replies x call)

-- the history goes on from what was seen, and has no room for a round
abbrev pub HasNoRoom : {S : Type 0} → (S → List Event) → (S → Type 0) → SeatView S → Type 0
HasNoRoom {S} events full v = (x : S) × IsTail v.seen (events x) × full x
