use Rattle.std.proofs.lemmas.Result.{IfOk-weaker}
use Rattle.task_queue.specs.Accounts.{IsConserved}
use Rattle.task_queue.specs.inner.Emptied.{IsRestOf}
use Rattle.task_queue.proofs.Emptying.{left_from}
use Rattle.task_queue.proofs.Ordering.{together_in_order}
use Rattle.task_queue.proofs.closing.rest_of.Goals as goal

pub apart-requires : goal.apart-requires
apart-requires g c =
    together_in_order c.args.seats.items c.in_ok-ordered.ordered.items c.requires c.in_ok-ordered.ensures

pub returns : goal.returns
returns g c =
    let seats = c.args.seats.items in
    let ordered = c.in_ok-ordered.ordered.items in
    let owns = c.in_ok-owns.owns.items in
    let rows = c.in_ok-owns.rows.items in
    IfOk-weaker c.empty_all.result (λ rest. IsRestOf owns rows rest.items) (λ rest. IsConserved seats rest.items) (λ rest is. left_from seats ordered owns rows rest.items c.in_ok-ordered.ensures c.in_ok-owns.ensures.apart is) c.empty_all.ensures
