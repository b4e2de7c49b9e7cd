-- How what tasks share goes over from one state into the next: its history is longer, and so are its tasks' deeds.
use Rattle.std.specs.Prelude.{◌≡◌, ◌≢◌, ℕ, ◌+◌, Bool, true, false, List, [], ◌∷◌}
use Rattle.told_history.specs.Tails.{IsTail}
use Rattle.phase_model.specs.declared.history.Event.{Event}
use Rattle.level_phaser.specs.declared.view.Deeds.{Deeds}
use Rattle.level_phaser.specs.Deeds.{deeds, deeds_of, with_signal, with_send}

module _ {S : Type 0} (events : S → List Event) (registered : ℕ → S → Bool) (count : S → ℕ) (width : S → ℕ)
  where
    -- if the task is registered it stays, and has done this much more
    abbrev pub Does : (Deeds → Deeds) → ℕ → S → S → Type 0
    Does more task x y =
        registered task x ≡ true → (registered task y ≡ true)
        × (deeds_of task (events y) ≡ more (deeds_of task (events x)))

    -- each task has signalled once more
    abbrev pub AllSignalled : S → S → Type 0
    AllSignalled x y =
        IsTail (events x) (events y) × (count y ≡ count x) × ((task : ℕ) → Does (λ d. with_signal d) task x y)
        × (width y ≡ width x)

    -- no task has signalled or sent
    abbrev pub IsKept : S → S → Type 0
    IsKept x y = IsTail (events x) (events y) × (count y ≡ count x) × ((task : ℕ) → Does (λ d. d) task x y)
        × (width y ≡ width x)

    -- this task is registered now and wasn't before; it has signalled what the others have, and has sent nothing
    abbrev pub IsJoined : ℕ → ℕ → S → S → Type 0
    IsJoined new phase x y =
        IsTail (events x) (events y)
        × (count y ≡ count x + 1)
        × (registered new x ≡ false)
        × (registered new y ≡ true)
        × (deeds_of new (events y) ≡ deeds phase [])
        × ((task : ℕ) → Does (λ d. d) task x y)
        × (width y ≡ width x)

    -- one event more: this task sent a value in it
    abbrev pub IsSent : ℕ → Event → S → S → Type 0
    IsSent sender e x y =
        (events y ≡ e ∷ events x)
        × (count y ≡ count x)
        × Does (λ d. with_send e d) sender x y
        × ((task : ℕ) → task ≢ sender → Does (λ d. d) task x y)
        × (width y ≡ width x)

    -- this task isn't registered any more
    abbrev pub IsLeft : ℕ → S → S → Type 0
    IsLeft gone x y =
        IsTail (events x) (events y)
        × (count y + 1 ≡ count x)
        × (registered gone y ≡ false)
        × ((task : ℕ) → task ≢ gone → Does (λ d. d) task x y)
        × (width y ≡ width x)
