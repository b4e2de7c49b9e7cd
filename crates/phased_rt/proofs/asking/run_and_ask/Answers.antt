use Rattle.std.proofs.Common.{ℕ}
use Rattle.std.proofs.lemmas.Result.{IfOk-weaker}
use Rattle.phase_model.specs.Rules.{Story}
use Rattle.tasks_in_flight.specs.Heard.{nothing, at_start}
use Rattle.tasks_in_flight.specs.Said.{IsSaid, AreSaid, IsSaidOf}
use Rattle.phased_rt.specs.Says.{SaysOfTrace, SaysOfEach}
use Rattle.phased_rt.proofs.asking.run_and_ask.Goals as goal

-- what the root's body says of the parts it says of the trace
pub returns-clause-says : goal.returns-clause-says
returns-clause-says g c =
    let left = c.in_ok-remains.remains in
    let limits = c.args.limits in
    IfOk-weaker c.told_of.result
    (λ r. IsSaid g.B.Body.shows limits left.phasers.items left.logs.items left.root → SaysOfTrace g.B.Body.shows limits r.0.trace.events r.0.root)
    (λ r. ((stories : ℕ → Story) → g.B.Body.shows c.args.root 0 nothing (at_start (λ n. 0) stories)) → SaysOfTrace g.B.Body.shows limits r.0.trace.events r.0.root)
    (λ r says root. says (c.in_ok-remains.ensures.says root))
    c.told_of.ensures.says

-- and what other tasks' bodies do
pub returns-clause-each : goal.returns-clause-each
returns-clause-each g c =
    let left = c.in_ok-remains.remains in
    let limits = c.args.limits in
    IfOk-weaker c.told_of.result
    (λ r. AreSaid (IsSaidOf g.B.Body.shows) limits left.phasers.items left.logs.items → SaysOfEach g.B.Body.shows limits r.0.trace.events)
    (λ r. ((stories : ℕ → Story) → g.B.Body.shows c.args.root 0 nothing (at_start (λ n. 0) stories)) → SaysOfEach g.B.Body.shows limits r.0.trace.events)
    (λ r says root. says (c.in_ok-remains.ensures.each root))
    c.told_of.ensures.each
