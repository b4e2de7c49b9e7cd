-- What is reported of a failure, where more failures may be the one.
use Rattle.std.proofs.Common.{◌≡◌, ◌⊎◌, ℕ, List, Option, codes, inl, inr, refl, sym, subst}
use Rattle.std.specs.Fmt.{digits}
use Rattle.phase_modes.specs.declared.refusal.Refusal.TheVariants.{Memory}
use Rattle.job_ends.specs.declared.failure.Ending.{Ending}
use Rattle.job_ends.specs.declared.failure.Failure.{Failure}
use Rattle.job_ends.specs.declared.failure.Failure.TheVariants.{Refused}
use Rattle.job_ends.specs.Ends.{Reports, failure_line}

pub reports_more : (Known More : Failure → Type 0) (e : Ending) (old new : Option (List ℕ))
    → ((f : Failure) → Known f → More f) → Reports Known e old new → Reports More e old new
reports_more Known More e old new more t = (t.0, t.1, more t.0 t.2, t.3)

-- this failure, or want of memory
either : (More : Failure → Type 0) (self f : Failure) → More self → More (Refused Memory)
    → (f ≡ self) ⊎ (f ≡ Refused Memory) → More f
either More self f own memory (inl e) = subst More (sym e) own
either More self f own memory (inr e) = subst More (sym e) memory

pub reports_of : (More : Failure → Type 0) (self : Failure) (e : Ending) (old new : Option (List ℕ))
    → More self
    → More (Refused Memory) → Reports (λ f. (f ≡ self) ⊎ (f ≡ Refused Memory)) e old new
    → Reports More e old new
reports_of More self e old new own memory t =
    reports_more _ More e old new (λ f. either More self f own memory) t

-- the fixed line of want of memory
pub memory_line : codes "refused 23 Memory\n" ≡ failure_line (Refused Memory)
unfolding digits
memory_line = refl
