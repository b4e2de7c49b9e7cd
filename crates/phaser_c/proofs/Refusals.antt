-- What is reported of a failed check is a refusal of its own.
use Rattle.std.proofs.Common.{◌≡◌, ℕ, List, refl, sym, subst, inl, inr}
use Rattle.job_ends.specs.declared.failure.Failure.{Failure}
use Rattle.job_ends.specs.declared.failure.Failure.TheVariants.{Refused, Read, Write}
use Rattle.job_ends.specs.declared.failure.Status.TheVariants as statuses
use Rattle.job_ends.specs.Ends.{failure_line, status_of}
use Rattle.phase_modes.specs.declared.refusal.Refusal.TheVariants.{Memory}
use Rattle.text_jobs.specs.Replayed.{IsOfReplay}
use Rattle.text_jobs.specs.EventsEnds.{IsOfAnswer}
use Rattle.phaser_c.specs.Checked.{without_write, IsReported, IsRefusal}

-- the failure itself, where it isn't of reading
known_of : (Known : Failure → Type 0) → (Known Read → ⊥) → Known (Refused Memory) → (f g : Failure) → Known f → IsReported (without_write f) g
    → (status_of g ≡ statuses.Refused) × Known g
known_of Known unread memory f g k (inr e) = (subst (λ x. status_of x ≡ statuses.Refused) (sym e) refl, subst Known (sym e) memory)
known_of Known unread memory (Refused r) g k (inl e) = (subst (λ x. status_of x ≡ statuses.Refused) (sym e) refl, subst Known (sym e) k)
known_of Known unread memory Read g k (inl e) = absurd (unread k)
known_of Known unread memory Write g k (inl e) = (subst (λ x. status_of x ≡ statuses.Refused) (sym e) refl, subst Known (sym e) memory)

pub replay_refused : (bytes text : List ℕ) (f g : Failure) → IsOfReplay bytes f → IsReported (without_write f) g → text ≡ failure_line g → IsRefusal (IsOfReplay bytes) text
replay_refused bytes text f g k r l = let h = known_of (IsOfReplay bytes) (λ x. x) tt f g k r in (g, h.0, h.1, l)

pub answer_refused : (bytes text : List ℕ) (f g : Failure) → IsOfAnswer bytes f → IsReported (without_write f) g → text ≡ failure_line g → IsRefusal (IsOfAnswer bytes) text
answer_refused bytes text f g k r l = let h = known_of (IsOfAnswer bytes) (λ x. x) tt f g k r in (g, h.0, h.1, l)
