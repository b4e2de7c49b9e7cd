-- How a job ends: its failures, their lines, and the statuses.
use Rattle.std.specs.Prelude.{◌≡◌, ◌<◌, ◌++◌, ◌⊎◌, ℕ, List, length, take, Bool, true, Option, IfSome, codes, ⊤}
use Rattle.std.specs.Io.KnownBytes.{Appends}
use Rattle.phase_modes.specs.declared.refusal.Refusal.TheVariants.{Memory, BadText}
use Rattle.phase_modes.specs.Refusal.{refusal_text}
use Rattle.job_ends.specs.declared.failure.Ending.{Ending}
use Rattle.job_ends.specs.declared.failure.Failure.{Failure}
use Rattle.job_ends.specs.declared.failure.Failure.TheVariants.{Refused, Read, Write}
use Rattle.job_ends.specs.declared.failure.Status.{Status}
use Rattle.job_ends.specs.declared.failure.Status.TheVariants as statuses

-- the line that reports a failure, with its newline
abbrev pub failure_line : Failure → List ℕ
failure_line (Refused r) = refusal_text r ++ codes "\n"
failure_line Read = codes "fault read\n"
failure_line Write = codes "fault write\n"

abbrev pub status_of : Failure → Status
status_of (Refused r) = statuses.Refused
status_of Read = statuses.Fault
status_of Write = statuses.Fault

-- a beginning of the text was appended, and if all of it was written, exactly the text
abbrev pub AppendsFront : Bool → Option (List ℕ) → Option (List ℕ) → List ℕ → Type 0
AppendsFront all old new text =
    ((n : ℕ) × Appends old new (take n text)) × (all ≡ true → Appends old new text)

-- some failure has this status, and this is known of it; what was appended is its line, or if that was not
-- reported, a beginning of it
abbrev pub Reports : (Failure → Type 0) → Ending → Option (List ℕ) → Option (List ℕ) → Type 0
Reports Known e old new =
    (f : Failure) × (status_of f ≡ e.status) × Known f × AppendsFront e.reported old new (failure_line f)

-- the same of a status alone, which doesn't say whether the line was reported
abbrev pub ReportsStatus : (Failure → Type 0) → Status → Option (List ℕ) → Option (List ℕ) → Type 0
ReportsStatus Known s old new =
    (reported : Bool) × Reports Known (record { status = s; reported = reported }) old new

-- the exit status of the process
abbrev pub code_of : Status → ℕ
code_of statuses.Done = 0
code_of statuses.Refused = 1
code_of statuses.Usage = 2
code_of statuses.Fault = 3

-- reading the whole of what a reader has left fails for want of memory,
-- by a read, or because there are more bytes than are allowed
abbrev pub IsOfReading : ℕ → Option (List ℕ) → Failure → Type 0
IsOfReading most all (Refused Memory) = ⊤
IsOfReading most all (Refused (BadText p)) = (p ≡ 0) × IfSome all (λ bytes. most < length bytes)
IsOfReading most all (Refused _) = ⊥
IsOfReading most all Read = ⊤
IsOfReading most all Write = ⊥

-- it is a failure of reading, or one that bytes have, which are all that was read
abbrev pub IsOfJob : ℕ → (List ℕ → Failure → Type 0) → Option (List ℕ) → Failure → Type 0
IsOfJob most IsOf all f =
    IsOfReading most all f ⊎ ((bytes : List ℕ) × IfSome all (λ known. bytes ≡ known) × IsOf bytes f)
