-- One whole run of a program tells the report of each other one that has memory.
use Rattle.std.proofs.Common.{sym}
use Rattle.run_laws.specs.OneRun.{OneRunTellsAll}
use Rattle.trace_walk.specs.Walking.{script_next}
use Rattle.run_laws.specs.Programs.{script_root}
use Rattle.run_laws.specs.Telling.{in_order}
use Rattle.run_laws.proofs.Least.{least_hangs_on_memory_alone}
use Rattle.run_laws.proofs.Scripts.{run_of, followers_go_by_scripts}

pub one_run_tells_all : OneRunTellsAll
one_run_tells_all p v run roomy w o =
    let goes = followers_go_by_scripts p w o.legal o.follows_it in
    let both = least_hangs_on_memory_alone script_next (script_root p) p.limits v w (run_of p in_order v run) roomy
    o.legal goes o.draws o.memory in
    record { unrefused = both.0; report = λ ended. sym (both.1 ended) }
