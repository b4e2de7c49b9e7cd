-- What a `pass` is answered, cause by cause.
use Rattle.std.proofs.Common.{◌≡◌, ℕ, ◌+◌, ◌==◌, Bool, true, false, ◌||◌, ◌&&◌, not, ◌∷◌, None, refl, ap, ◌∙◌}
use Rattle.phase_modes.specs.declared.refusal.Refusal.TheVariants.{NotRegistered, NotSignalled}
use Rattle.phase_modes.specs.Refusal.{first_refusal}
use Rattle.phase_modes.specs.Mode.{can_signal, can_wait}
use Rattle.phase_model.specs.declared.history.Event.TheVariants.{Pass, Claim}
use Rattle.phase_model.specs.Tasks.{is_live, has_mode}
use Rattle.phase_model.specs.Phases.{waits, signals, is_closed}
use Rattle.phase_model.specs.Singles.{is_settled}
use Rattle.phase_model.specs.Rules.{Story, has_room, is_permitted}
use Rattle.phase_model.specs.declared.call.Call.TheVariants.{Pass as pass}
use Rattle.phase_model.specs.Conditions.{conditions}
use Rattle.phase_model.specs.Replies.{reply, refused, not_yet, decided, must_wait, event_for}
use Rattle.phase_model.proofs.Replied.{reply_by}

-- a && not b, the other way round
unless : (a b : Bool) → (a && not b) ≡ false → (not a || b) ≡ true
unless true true k = refl
unless true false k = absurd cc
unless false b k = refl

unless_not : (a b : Bool) → (a && not b) ≡ true → (not a || b) ≡ false
unless_not true true k = absurd cc
unless_not true false k = refl
unless_not false b k = absurd cc

-- who need not wait passes, and who must can't
waits_not : (w c : Bool) → (w && not c) ≡ false → (w && not (not w || c) && not false) ≡ false
waits_not true true k = refl
waits_not true false k = absurd cc
waits_not false c k = refl

waits_still : (w c : Bool) → (w && not c) ≡ true → (w && not (not w || c) && not false) ≡ true
waits_still true true k = absurd cc
waits_still true false k = refl
waits_still false c k = absurd cc

claims_now : (w x : Bool) → (w && not x && not true) ≡ false
claims_now true true = refl
claims_now true false = refl
claims_now false x = refl

module _ (s : Story) (t : ℕ) where
  pub unknown : is_live t s.past ≡ false → reply s (pass t) ≡ refused NotRegistered
  unknown a = rw a refl

  module _ (live : is_live t s.past ≡ true) where
    pub not_signalled : (has_mode can_signal t s.past && not (signals t s.past == waits t s.past + 1)) ≡ true
        → reply s (pass t) ≡ refused NotSignalled
    not_signalled b =
        rw (live, unless_not (has_mode can_signal t s.past) (signals t s.past == waits t s.past + 1) b) refl

    module _ (signalled : (has_mode can_signal t s.past && not (signals t s.past == waits t s.past + 1))
        ≡ false) where
      no_cause : first_refusal (conditions s.limits s.terms s.past (pass t)) ≡ None
      no_cause =
          rw (
            live,
            unless (has_mode can_signal t s.past) (signals t s.past == waits t s.past + 1) signalled,
          ) refl

      -- the task claims
      pub claims : is_permitted s.limits s.terms s.past (Claim t) ≡ true
          → reply s (pass t) ≡ decided None false (has_room s.limits (Claim t ∷ s.past)) (Claim t)
      claims c =
          let event_is : event_for s.limits s.terms s.past (pass t) ≡ Claim t = rw c refl in
          let held : must_wait s.limits s.terms s.past (pass t) ≡ false =
          ap (λ b. has_mode can_wait t s.past && not (is_permitted s.limits s.terms s.past (Pass t)) && not b) c
          ∙ claims_now (has_mode can_wait t s.past) (is_permitted s.limits s.terms s.past (Pass t))
          in
          reply_by s (pass t) None false (Claim t) no_cause held event_is

      module _ (no_claim : is_permitted s.limits s.terms s.past (Claim t) ≡ false) where
        may_pass_is : is_permitted s.limits s.terms s.past (Pass t)
            ≡ (not (has_mode can_wait t s.past)
            || (is_closed (waits t s.past) s.past && is_settled (waits t s.past) s.past))
        may_pass_is =
            rw (
              live,
              unless (has_mode can_signal t s.past) (signals t s.past == waits t s.past + 1) signalled,
            ) refl

        event_is : event_for s.limits s.terms s.past (pass t) ≡ Pass t
        event_is = rw no_claim refl

        held_by : (b : Bool)
            → (has_mode can_wait t s.past
            && not (not (has_mode can_wait t s.past)
            || (is_closed (waits t s.past) s.past && is_settled (waits t s.past) s.past)) && not false) ≡ b
            → must_wait s.limits s.terms s.past (pass t) ≡ b
        held_by b k =
            ap (λ v. has_mode can_wait t s.past && not v
            && not (is_permitted s.limits s.terms s.past (Claim t))) may_pass_is
            ∙ (ap (λ v. has_mode can_wait t s.past
            && not (not (has_mode can_wait t s.past)
            || (is_closed (waits t s.past) s.past && is_settled (waits t s.past) s.past)) && not v)
            no_claim ∙ k)

        -- the phase is open, or its single is
        pub waiting : (has_mode can_wait t s.past
            && not (is_closed (waits t s.past) s.past && is_settled (waits t s.past) s.past)) ≡ true
            → reply s (pass t) ≡ not_yet
        waiting o =
            reply_by s (pass t) None true (Pass t) no_cause
            (held_by true
            (waits_still (has_mode can_wait t s.past)
            (is_closed (waits t s.past) s.past && is_settled (waits t s.past) s.past) o)) event_is

        -- nothing holds the task up
        pub free : (has_mode can_wait t s.past
            && not (is_closed (waits t s.past) s.past && is_settled (waits t s.past) s.past)) ≡ false
            → reply s (pass t) ≡ decided None false (has_room s.limits (Pass t ∷ s.past)) (Pass t)
        free o =
            reply_by s (pass t) None false (Pass t) no_cause
            (held_by false
            (waits_not (has_mode can_wait t s.past)
            (is_closed (waits t s.past) s.past && is_settled (waits t s.past) s.past) o)) event_is
