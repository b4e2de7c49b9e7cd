use Rattle.std.proofs.Common.{sym, ◌∙◌}
use Rattle.std.proofs.lemmas.Bool.{or_parts}
use Rattle.long_locks.proofs.Calling.{settled_step}
use Rattle.long_locks.proofs.own.advance.Goals as goal

pub returns-in-HasSignalled-clause-nobody : goal.returns-in-HasSignalled-clause-nobody
returns-in-HasSignalled-clause-nobody c = λ kept n.
    let w = c.args.waiter in
    let parts = or_parts _ _ (sym c.either-may_go_on.ensures ∙ n) in
    c.own_step-course-in-HasSignalled.ensures.nobody
    (settled_step c.args.state.now.story _ w.task w.call c.args.parked.now.items kept
    c.own_step-course.ensures.history
    (c.own_step-course.ensures.nobody kept parts.0)) parts.1
