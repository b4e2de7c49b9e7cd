use Rattle.std.proofs.Common.{None, List, sym, subst}
use Rattle.table_receipts.specs.Logs.{Sight}
use Rattle.tasks_in_flight.specs.Heard.{ends}
use Rattle.tasks_in_flight.specs.inner.Ready.{Says, IsReady, seen_by}
use Rattle.tasks_in_flight.proofs.task.Task.front.Goals as goal

pub invariant_of-self-clause-ready : goal.invariant_of-self-clause-ready
invariant_of-self-clause-ready g c =
    let old = c.args.self.now in
    subst (λ (fronts : List Sight). ∥ (g.K.Supposing.supposed → IsReady g.B.Body.shows None old.body old.log.task old.standing.plan old.answer (seen_by fronts old.standing old.log.log)) ∥₁)
    (sym c.get.ensures.same) old.ready

pub invariant_of-self-clause-end : goal.invariant_of-self-clause-end
invariant_of-self-clause-end g c = λ ended.
    let old = c.args.self.now in
    subst (λ (fronts : List Sight). ∥ (g.K.Supposing.supposed → Says g.B.Body.shows old.body old.log.task ends (seen_by fronts old.standing old.log.log)) ∥₁)
    (sym c.get.ensures.same) (old.end ended)
