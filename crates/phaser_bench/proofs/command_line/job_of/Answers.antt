use Rattle.std.proofs.Common.{ℕ, List, codes}
use Rattle.phaser_bench.specs.declared.phasers.job.CoreJob.{CoreJob}
use Rattle.phaser_bench.specs.declared.locks.job.LocksJob.{LocksJob}
use Rattle.phaser_bench.specs.declared.worlds.job.WorldsJob.{WorldsJob}
use Rattle.phaser_bench.specs.declared.job.Job.{Job}
use Rattle.phaser_bench.specs.declared.job.Job.TheVariants.{Core, Locks, Receipts, Worlds}
use Rattle.phaser_bench.specs.CommandLine.{NamesCore, NamesTable, NamesWorlds, Names}
use Rattle.phaser_bench.proofs.command_line.job_of.Goals as goal

-- where words name no job of any sort, they name none
none_named : (words : List (List ℕ)) → ((job : CoreJob) → NamesCore job words → ⊥)
    → ((job : LocksJob) → NamesTable (codes "locks") job words → ⊥)
    → ((job : LocksJob) → NamesTable (codes "receipts") job words → ⊥)
    → ((job : WorldsJob) → NamesWorlds job words → ⊥)
    → (job : Job) → Names job words → ⊥
none_named words no_core no_locks no_receipts no_worlds (Core job) named = no_core job named
none_named words no_core no_locks no_receipts no_worlds (Locks job) named = no_locks job named
none_named words no_core no_locks no_receipts no_worlds (Receipts job) named = no_receipts job named
none_named words no_core no_locks no_receipts no_worlds (Worlds job) named = no_worlds job named

pub returns : goal.returns
returns c =
    none_named _ c.in_default.ensures c.in_default-locks_job.ensures c.in_default-receipts_job.ensures c.in_default-worlds_job.ensures
