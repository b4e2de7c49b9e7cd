-- What is known of the reason that is reported.
use Rattle.std.proofs.Common.{◌≡◌, ◌⊎◌, ℕ, List, Option, inl, inr, sym, ap, subst, ◌∙◌}
use Rattle.phase_modes.specs.declared.refusal.Refusal.TheVariants.{Memory}
use Rattle.job_ends.specs.declared.failure.Ending.{Ending}
use Rattle.job_ends.specs.declared.failure.Failure as failures
use Rattle.job_ends.specs.declared.failure.Failure.TheVariants.{Refused}
use Rattle.run_jobs.specs.Certificate.{Reports}
use Rattle.run_jobs.specs.declared.ending.NoCertificate.{NoCertificate}
use Rattle.run_jobs.specs.declared.ending.NoCertificate.TheVariants.{Failure}

-- a failure that is reported in its place is this reason, or want of memory
pub of_failure : (self : NoCertificate) (failure f : failures.Failure) → self ≡ Failure failure
    → (f ≡ failure) ⊎ (f ≡ Refused Memory) → (Failure f ≡ self) ⊎ (Failure f ≡ Failure (Refused Memory))
of_failure self failure f is (inl e) = inl (ap Failure e ∙ sym is)
of_failure self failure f is (inr e) = inr (ap Failure e)

pub of_memory : (self : NoCertificate) (f : failures.Failure) → (f ≡ Refused Memory) ⊎ (f ≡ Refused Memory)
    → (Failure f ≡ self) ⊎ (Failure f ≡ Failure (Refused Memory))
of_memory self f (inl e) = inr (ap Failure e)
of_memory self f (inr e) = inr (ap Failure e)

-- this reason, or want of memory
either : (More : NoCertificate → Type 0) (self n : NoCertificate) → More self → More (Failure (Refused Memory))
    → (n ≡ self) ⊎ (n ≡ Failure (Refused Memory)) → More n
either More self n own memory (inl e) = subst More (sym e) own
either More self n own memory (inr e) = subst More (sym e) memory

pub reports_of : (More : NoCertificate → Type 0) (self : NoCertificate) (e : Ending) (old new : Option (List ℕ))
    → More self → More (Failure (Refused Memory))
    → Reports (λ n. (n ≡ self) ⊎ (n ≡ Failure (Refused Memory))) e old new → Reports More e old new
reports_of More self e old new own memory t = (t.0, t.1, either More self t.0 own memory t.2, t.3)
