-- What the checker hands out.
use Rattle.std.specs.Prelude.{◌≡◌, ◌⊎◌, ℕ, List, length, nat_le, if◌then◌else◌, Result, Ok, Err, ⊤}
use Rattle.phase_modes.specs.declared.refusal.Refusal.TheVariants.{Memory}
use Rattle.job_ends.specs.declared.failure.Failure.{Failure}
use Rattle.job_ends.specs.declared.failure.Failure.TheVariants.{Refused, Read, Write}
use Rattle.job_ends.specs.declared.failure.Status.TheVariants as statuses
use Rattle.job_ends.specs.Ends.{failure_line, status_of}
use Rattle.text_jobs.specs.Replayed.{report_for, Explains, IsOfReplay}
use Rattle.text_jobs.specs.EventsForm.{Form}
use Rattle.text_jobs.specs.EventsLines.{text_for}
use Rattle.text_jobs.specs.EventsFiles.{file_spelled}
use Rattle.text_jobs.specs.EventsEnds.{IsOfAnswer}
use Rattle.phaser_c.specs.Answers.{number_of_answer}
use Rattle.phaser_c.specs.Told.{IsTold}
use Rattle.phaser_c.specs.declared.answer.ExportAnswer.TheVariants.{Short}
use Rattle.phaser_c.specs.declared.checker.Checked.{Checked}
use Rattle.phaser_c.specs.declared.checker.Checked.TheVariants as checked

-- a list of bytes takes every write but for want of memory
abbrev pub without_write : Failure → Failure
without_write (Refused r) = Refused r
without_write Read = Read
without_write Write = Refused Memory

-- it is the failure, or want of memory for its line
abbrev pub IsReported : Failure → Failure → Type 0
IsReported f g = (g ≡ f) ⊎ (g ≡ Refused Memory)

-- how a check ends that wrote these lines, or failed
abbrev pub IsEnd : List ℕ → Result (Unit {0}) Failure → Checked → Type 0
IsEnd lines (Ok u) (checked.Done text) = text.items ≡ lines
IsEnd lines (Ok u) (checked.Refused text) = ⊥
IsEnd lines (Ok u) checked.Lacking = ⊥
IsEnd lines (Err f) (checked.Done text) = ⊥
IsEnd lines (Err f) (checked.Refused text) =
    (g : Failure) × IsReported (without_write f) g × (text.items ≡ failure_line g)
IsEnd lines (Err f) checked.Lacking = ⊤

-- a refusal, with this known of the failure, and its line
abbrev pub IsRefusal : (Failure → Type 0) → List ℕ → Type 0
IsRefusal Known text = (f : Failure) × (status_of f ≡ statuses.Refused) × Known f × (text ≡ failure_line f)

-- what replaying these bytes gives: the report of the one trace that they spell, or a refusal
abbrev pub IsReplayed : List ℕ → Checked → Type 0
IsReplayed bytes (checked.Done text) = Explains bytes (λ t. text.items ≡ report_for t)
IsReplayed bytes (checked.Refused text) = IsRefusal (IsOfReplay bytes) text.items
IsReplayed bytes checked.Lacking = IsOfReplay bytes (Refused Memory)

-- what answering these bytes gives: the reply lines of the file that they spell, or a refusal
abbrev pub IsAnswered : List ℕ → Checked → Type 0
IsAnswered bytes (checked.Done text) = (file : Form) × (file_spelled bytes ≡ Ok file) × (text.items ≡ text_for file)
IsAnswered bytes (checked.Refused text) = IsRefusal (IsOfAnswer bytes) text.items
IsAnswered bytes checked.Lacking = IsOfAnswer bytes (Refused Memory)

-- the number, if the room is large enough for the text
abbrev pub if_told : List ℕ → List ℕ → ℕ → ℕ
if_told text room number = if nat_le (length text) (length room) then number else number_of_answer Short

-- what a check gave is told in a room, and answered by 0 or 1, the exit status of the program
abbrev pub IsHanded : Checked → List ℕ → List ℕ → ℕ → ℕ → Type 0
IsHanded (checked.Done text) old new written number =
    IsTold text.items old new written × (number ≡ if_told text.items old 0)
IsHanded (checked.Refused text) old new written number =
    IsTold text.items old new written × (number ≡ if_told text.items old 1)
IsHanded checked.Lacking old new written number =
    IsTold (failure_line (Refused Memory)) old new written × (number ≡ if_told (failure_line (Refused Memory)) old 1)
