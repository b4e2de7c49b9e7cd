-- What a `send` and a `look` are answered, cause by cause.
use Rattle.std.proofs.Common.{◌≡◌, ℕ, nat_lt, true, false, ◌∷◌, None, length, ℤ, refl}
use Rattle.phase_modes.specs.declared.refusal.Refusal.TheVariants.{NotRegistered, NoSignal, NoWait, NoAccumulator, NoPhaseYet}
use Rattle.phase_modes.specs.Mode.{can_signal, can_wait}
use Rattle.phase_model.specs.declared.history.Event.TheVariants.{Send, Look as Looked}
use Rattle.phase_model.specs.Tasks.{is_live, has_mode}
use Rattle.phase_model.specs.Phases.{waits}
use Rattle.phase_model.specs.Rules.{Story, has_room, look_of}
use Rattle.phase_model.specs.declared.call.Call.TheVariants.{Send as send, Look as look}
use Rattle.phase_model.specs.Replies.{reply, refused, decided}

module _ (s : Story) (t a : ℕ) (v : ℤ) where
  pub unknown : is_live t s.past ≡ false → reply s (send t a v) ≡ refused NotRegistered
  unknown k = rw k refl

  module _ (live : is_live t s.past ≡ true) where
    pub no_signal : has_mode can_signal t s.past ≡ false → reply s (send t a v) ≡ refused NoSignal
    no_signal k = rw (live, k) refl

    module _ (signaller : has_mode can_signal t s.past ≡ true) where
      pub no_accumulator : nat_lt a (length s.terms.ops) ≡ false → reply s (send t a v) ≡ refused NoAccumulator
      no_accumulator k = rw (live, signaller, k) refl

      pub free : nat_lt a (length s.terms.ops) ≡ true
          → reply s (send t a v) ≡ decided None false (has_room s.limits (Send t a v ∷ s.past)) (Send t a v)
      free k = rw (live, signaller, k) refl

module _ (s : Story) (t a : ℕ) where
  pub unknown_look : is_live t s.past ≡ false → reply s (look t a) ≡ refused NotRegistered
  unknown_look k = rw k refl

  module _ (live : is_live t s.past ≡ true) where
    pub no_wait : has_mode can_wait t s.past ≡ false → reply s (look t a) ≡ refused NoWait
    no_wait k = rw (live, k) refl

    module _ (waiter : has_mode can_wait t s.past ≡ true) where
      pub no_accumulator_look : nat_lt a (length s.terms.ops) ≡ false → reply s (look t a) ≡ refused NoAccumulator
      no_accumulator_look k = rw (live, waiter, k) refl

      module _ (fits : nat_lt a (length s.terms.ops) ≡ true) where
        pub no_phase_yet : nat_lt 0 (waits t s.past) ≡ false → reply s (look t a) ≡ refused NoPhaseYet
        no_phase_yet k = rw (live, waiter, fits, k) refl

        pub free_look : nat_lt 0 (waits t s.past) ≡ true
            → reply s (look t a)
            ≡ decided None false
            (has_room s.limits (Looked t a (look_of s.terms.ops a (waits t s.past) s.past) ∷ s.past))
            (Looked t a (look_of s.terms.ops a (waits t s.past) s.past))
        free_look k = rw (live, waiter, fits, k) refl
