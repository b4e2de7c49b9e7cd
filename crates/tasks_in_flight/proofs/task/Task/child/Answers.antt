use Rattle.std.proofs.Common.{None, List, refl, sym, subst}
use Rattle.table_receipts.specs.Logs.{Sight}
use Rattle.table_receipts.specs.Seen.{story_at}
use Rattle.tasks_in_flight.specs.Heard.{nothing, at_start, ends}
use Rattle.tasks_in_flight.specs.inner.Ready.{Says, IsReady, seen_by}
use Rattle.tasks_in_flight.proofs.Saying.{says_seen}
use Rattle.tasks_in_flight.proofs.task.Task.child.Goals as goal

pub new-requires-clause-says : goal.new-requires-clause-says
new-requires-clause-says g c =
    says_seen g.B.Body.shows c.args.body c.args.number nothing (at_start (λ n. c.args.number) (λ n. story_at c.args.self.now.fronts n))
    (at_start (λ n. c.args.number) (λ n. story_at c.in_ok-fronts.fronts n))
    (λ n. c.in_ok-fronts.ensures.each n) (λ n. refl) refl c.requires.says

pub invariant_of-self-clause-ready : goal.invariant_of-self-clause-ready
invariant_of-self-clause-ready g c =
    let old = c.args.self.now in
    subst (λ (fronts : List Sight). ∥ (g.K.Supposing.supposed → IsReady g.B.Body.shows None old.body old.log.task old.standing.plan old.answer (seen_by fronts old.standing old.log.log)) ∥₁)
    (sym c.again.ensures.same) old.ready

pub invariant_of-self-clause-end : goal.invariant_of-self-clause-end
invariant_of-self-clause-end g c = λ ended.
    let old = c.args.self.now in
    subst (λ (fronts : List Sight). ∥ (g.K.Supposing.supposed → Says g.B.Body.shows old.body old.log.task ends (seen_by fronts old.standing old.log.log)) ∥₁)
    (sym c.again.ensures.same) (old.end ended)
