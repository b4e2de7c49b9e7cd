-- What a run of a program that has to be certain writes, and why it isn't made, or isn't told.
use Rattle.std.specs.Prelude.{◌⊎◌, ℕ, List}
use Rattle.world_model.specs.Report.{Report, report_of}
use Rattle.trace_model.specs.Run.{Run}
use Rattle.run_laws.specs.Certified.{IsCertified}
use Rattle.run_laws.specs.Luck.{IsFirstLuck}
use Rattle.run_laws.specs.declared.luck.LuckAt.{LuckAt}
use Rattle.text_jobs.specs.Texts.{history}
use Rattle.run_jobs.specs.Worked.{IsOfRun, Runs}
use Rattle.run_jobs.specs.Certificate.{IsOfCertificate}
use Rattle.run_jobs.specs.declared.ending.NoCertificate.{NoCertificate}
use Rattle.run_jobs.specs.declared.ending.NoCertificate.TheVariants.{Failure, Luck}

-- the bytes spell a program, and the trace is one of a run of it; each run of the program that has memory gives the
-- report of this one, and this is known of that report and of the trace
abbrev pub RunsCertain : List ℕ → (Report → Run → Type 0) → Type 0
RunsCertain bytes P =
    Runs bytes (λ p t. IsCertified p (report_of p.limits (history t)) × P (report_of p.limits (history t)) t)

-- the bytes spell a program that is certified, and in a run of it that was made luck has a part, first in this event
abbrev pub IsLuckOfRun : List ℕ → LuckAt → Type 0
IsLuckOfRun bytes at = Runs bytes (λ p t. ((r : Report) × IsCertified p r) × IsFirstLuck t at)

-- the bytes have no run with a certificate: by a failure that a run of them may have; since they get no certificate; or
-- since luck has a part in the run that was made
abbrev pub IsOfCertain : List ℕ → NoCertificate → Type 0
IsOfCertain bytes (Failure f) = IsOfRun bytes f
IsOfCertain bytes (Luck at) = IsOfCertificate bytes (Luck at) ⊎ IsLuckOfRun bytes at
