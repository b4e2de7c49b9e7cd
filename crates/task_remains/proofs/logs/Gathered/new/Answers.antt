use Rattle.std.proofs.Common.{List, sym, subst}
use Rattle.trace_model.specs.Run.{Entry}
use Rattle.task_remains.specs.inner.Logs.{AreGathered}
use Rattle.task_remains.proofs.Gathering.{none_gathered}
use Rattle.task_remains.proofs.logs.Gathered.new.Goals as goal

pub returns-clause-own : goal.returns-clause-own
returns-clause-own c =
    let owners = c.in_ok-owners.owners in
    subst (λ (ps : List (List Entry)). AreGathered owners ps) (sym c.new-2.ensures.items) (none_gathered owners)
