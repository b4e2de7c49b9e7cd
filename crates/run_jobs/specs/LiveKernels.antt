-- What is printed of a kernel's run without a store, and why it isn't.
use Rattle.std.specs.Prelude.{◌≡◌, ◌++◌, ⊤, ℕ, ℤ, List, length, flat_map, codes}
use Rattle.job_ends.specs.declared.failure.Failure.{Failure}
use Rattle.job_ends.specs.declared.failure.Failure.TheVariants.{Refused, Read, Write}
use Rattle.live_rt.specs.declared.ended.Counts.{Counts}
use Rattle.live_rt.specs.Gone.{AreAllGone}
use Rattle.run_jobs.specs.declared.printing.Kernel.{Kernel}
use Rattle.run_jobs.specs.Living.{live_text}
use Rattle.run_jobs.specs.Printed.{value_text, word_of}

-- the word and the values, each after a blank, and then the lines of what is counted
abbrev pub live_kernel_text : Kernel → List ℤ → Counts → List ℕ
live_kernel_text k values c = ((word_of k ++ flat_map value_text values) ++ codes "\n") ++ live_text c

-- this is known of the text of so many values, and of the counts of a run that left nobody and in which no task was
-- refused
abbrev pub LivesKernel : Kernel → ℕ → (List ℕ → Type 0) → Type 0
LivesKernel k places P =
    (values : List ℤ) × (c : Counts) × (length values ≡ places) × AreAllGone c × (c.refused ≡ 0)
    × P (live_kernel_text k values c)

-- the run was refused, or a write failed
abbrev pub IsOfLive : Failure → Type 0
IsOfLive (Refused refusal) = ⊤
IsOfLive Read = ⊥
IsOfLive Write = ⊤
