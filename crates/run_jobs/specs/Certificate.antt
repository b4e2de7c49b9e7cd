-- What certifying a program's text writes, and why there is no certificate.
use Rattle.std.specs.Prelude.{◌≡◌, ◌++◌, ℕ, List, Bool, Option, Ok, Err, codes, ⊤}
use Rattle.phase_modes.specs.declared.refusal.Refusal.TheVariants.{Memory, BadText}
use Rattle.world_model.specs.Report.{Report}
use Rattle.world_model.specs.ReportLines.{report_text}
use Rattle.job_script.specs.Program.{Program}
use Rattle.job_ends.specs.declared.failure.Ending.{Ending}
use Rattle.job_ends.specs.declared.failure.Failure.TheVariants.{Refused, Read, Write}
use Rattle.job_ends.specs.declared.failure.Status.{Status}
use Rattle.job_ends.specs.declared.failure.Status.TheVariants as statuses
use Rattle.job_ends.specs.Ends as ends
use Rattle.job_ends.specs.Ends.{AppendsFront, failure_line}
use Rattle.text_jobs.specs.Texts.{program_spelled}
use Rattle.run_laws.specs.Certified.{IsCertified, IsOfCertifying}
use Rattle.run_laws.specs.Luck.{luck_at_text}
use Rattle.run_laws.specs.declared.certificate.NoAnswer.{NoAnswer}
use Rattle.run_laws.specs.declared.certificate.NoAnswer.TheVariants as answers
use Rattle.run_jobs.specs.declared.ending.NoCertificate.{NoCertificate}
use Rattle.run_jobs.specs.declared.ending.NoCertificate.TheVariants.{Failure, Luck}

-- the lines of a report, and the line that says that each run gives them
abbrev pub certificate_text : Report → List ℕ
certificate_text r = report_text r ++ codes "certain\n"

-- the bytes spell a program, each run of which that has memory gives a report, and this is known of it
abbrev pub Certifies : List ℕ → (Report → Type 0) → Type 0
Certifies bytes P = (p : Program) × (r : Report) × (program_spelled bytes ≡ Ok p) × IsCertified p r × P r

-- the bytes get no certificate: for want of memory, by their first fault, by a write, or, of a program that has no fault,
-- by the first event of its run by rounds in which luck has a part
abbrev pub IsOfCertificate : List ℕ → NoCertificate → Type 0
IsOfCertificate bytes (Failure (Refused Memory)) = ⊤
IsOfCertificate bytes (Failure (Refused (BadText p))) = program_spelled bytes ≡ Err p
IsOfCertificate bytes (Failure (Refused _)) = ⊥
IsOfCertificate bytes (Failure Read) = ⊥
IsOfCertificate bytes (Failure Write) = (p : Program) × (program_spelled bytes ≡ Ok p)
IsOfCertificate bytes (Luck at) =
    (p : Program) × (program_spelled bytes ≡ Ok p) × IsOfCertifying p (answers.Luck at)

-- without an answer there is no certificate
abbrev pub without_answer : NoAnswer → NoCertificate
without_answer (answers.Luck at) = Luck at
without_answer answers.Memory = Failure (Refused Memory)

-- the line that says why, with its newline
abbrev pub line_of : NoCertificate → List ℕ
line_of (Failure f) = failure_line f
line_of (Luck at) = luck_at_text at ++ codes "\n"

-- a program that gets none is refused
abbrev pub status_of : NoCertificate → Status
status_of (Failure f) = ends.status_of f
status_of (Luck at) = statuses.Refused

-- some reason has this status, and this is known of it; what was appended is its line, or if that was not reported, a
-- beginning of it
abbrev pub Reports : (NoCertificate → Type 0) → Ending → Option (List ℕ) → Option (List ℕ) → Type 0
Reports Known e old new =
    (n : NoCertificate) × (status_of n ≡ e.status) × Known n × AppendsFront e.reported old new (line_of n)

-- the same of a status alone, which doesn't say whether the line was reported
abbrev pub ReportsStatus : (NoCertificate → Type 0) → Status → Option (List ℕ) → Option (List ℕ) → Type 0
ReportsStatus Known s old new =
    (reported : Bool) × Reports Known (record { status = s; reported = reported }) old new
