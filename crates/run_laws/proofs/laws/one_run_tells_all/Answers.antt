-- The law that one whole run of a program tells the report of each.
use Rattle.run_laws.proofs.OneRun.{one_run_tells_all}
use Rattle.run_laws.proofs.laws.one_run_tells_all.Goals as goal

pub returns : goal.returns
returns c = one_run_tells_all
