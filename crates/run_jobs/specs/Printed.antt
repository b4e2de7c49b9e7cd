-- What is printed of the run of a kernel, and why it isn't.
use Rattle.std.specs.Prelude.{◌≡◌, ◌⊎◌, ◌++◌, ℕ, ℤ, List, flat_map, Result, Ok, Err, codes, MatchOption}
use Rattle.std.specs.Fmt.{signed_decimal}
use Rattle.phase_modes.specs.declared.refusal.Refusal.{Refusal}
use Rattle.phase_modes.specs.declared.refusal.Refusal.TheVariants.{Memory}
use Rattle.world_model.specs.Report.{Report}
use Rattle.world_model.specs.ReportLines.{totals_row}
use Rattle.job_kernels.specs.Results.{cells_of, items_of, refusal_of}
use Rattle.job_ends.specs.declared.failure.Failure.{Failure}
use Rattle.job_ends.specs.declared.failure.Failure.TheVariants.{Refused, Write}
use Rattle.run_jobs.specs.declared.printing.Kernel.{Kernel}
use Rattle.run_jobs.specs.declared.printing.Kernel.TheVariants.{Stencil, Pipeline}

-- the word before the values
abbrev pub word_of : Kernel → List ℕ
word_of (Stencil steps) = codes "cells"
word_of (Pipeline stages) = codes "items"

-- what the run gave
abbrev pub values_of : Kernel → Report → List ℤ
values_of (Stencil steps) r = cells_of steps r
values_of (Pipeline stages) r = items_of stages r

abbrev pub value_text : ℤ → List ℕ
value_text v = codes " " ++ signed_decimal v

-- the word, the values, each after a blank, and on a line of their own the totals
abbrev pub kernel_text : Kernel → Report → List ℕ
kernel_text k r = word_of k ++ flat_map value_text (values_of k r) ++ (codes "\n" ++ totals_row r.totals)

-- a report is not printed if one of its tasks was refused, by the refusal of the lowest; else only for
-- want of memory, or because a write fails
abbrev pub IsOfReport : Report → Failure → Type 0
IsOfReport r f = MatchOption (refusal_of r) ((f ≡ Refused Memory) ⊎ (f ≡ Write)) (λ refusal. f ≡ Refused refusal)

-- and if the run was refused, there is none
abbrev pub IsOfRun : Result Report Refusal → Failure → Type 0
IsOfRun (Ok r) f = IsOfReport r f
IsOfRun (Err refusal) f = f ≡ Refused refusal

-- a line that gets no memory is reported as want of memory
abbrev pub IsOfEnd : Result Report Refusal → Failure → Type 0
IsOfEnd ran f = IsOfRun ran f ⊎ (f ≡ Refused Memory)
